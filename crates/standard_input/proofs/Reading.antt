-- One read, and reads as far as a room reaches. Assumes nothing.
use Prim.Native.Nat.{ℕ, zero, suc, ◌+◌, ◌-◌, ◌≤◌, ◌<◌, min}
use mathlib.Core.Path.{◌≡◌, refl, sym, ◌∙◌, ap, subst}
use mathlib.Core.Bool.{Bool, true, false}
use mathlib.Core.List.{List, [], ◌∷◌, ◌++◌}
use native.Mathlib.Nat.{min-le_right}
use native.Mathlib.Omega.{arith}
use borrow.Author.Tests.{eqb-true, eqb-false}
use borrow.Rule.Slice.PartMut.{mid_of, post_of, put_mid, same_len_mid}
use lib.IntN.{ℤ, pos, negsuc}
use lib.ListN.{length, take, drop, length-take, length-drop}
use lib.Seq.{length-take-le, take-append-le, take-append-add, take_at}
use mir.Facts.{to_z-of_z}
use mir.Syntax.{w64}
use mir.Val.{SFits, of_z, to_z}
use lib.Dec.{eqb}
use Rattle.system_calls.specs.Counts.{count_in}
use Rattle.standard_input.specs.Reading.{bytes_read, is_end, Brought, TakenRead, ReadOn}
use Rattle.standard_input.specs.Reading.Brought.{none, more}

-- a read is at the end where it answered 0. The code reads the number that it answered from its bits
module _ (got : ℤ) (fits : SFits w64 got) where
  as-tested : (yes : Bool) → eqb (of_z w64 got) 0 ≡ yes → yes ≡ is_end got
  unfolding is_end
  as-tested true e = ap is_end (ap (λ (n : ℕ). to_z w64 n) (sym (eqb-true _ _ e)) ∙ to_z-of_z fits)
  as-tested false e = other got (λ is. eqb-false _ _ e (ap (λ (z : ℤ). of_z w64 z) is))
    where
      other : (z : ℤ) → (z ≡ pos 0 → ⊥) → false ≡ is_end z
      other (pos zero) h = absurd (h refl)
      other (pos (suc n)) h = refl
      other (negsuc k) h = refl

  pub at_end-is_end : eqb (of_z w64 got) 0 ≡ is_end got
  at_end-is_end = as-tested _ refl

-- the bytes of a read are as many as its number counts, and stand at the front of its room
counted : (got : ℤ) (room : List ℕ) → count_in got (length room) ≡ length (bytes_read got room)
counted (pos n) room = sym (length-take n room)
counted (negsuc k) room = refl

few_bytes : (got : ℤ) (room : List ℕ) → length (bytes_read got room) ≤ length room
few_bytes (pos n) room = rw (length-take n room) (min-le_right n (length room))
few_bytes (negsuc k) room = omega arith

at_front : (got : ℤ) (room : List ℕ) → bytes_read got room ≡ take (length (bytes_read got room)) room
at_front (pos n) room = sym (shorter n room)
  where
    shorter : (n : ℕ) (l : List ℕ) → take (length (take n l)) l ≡ take n l
    shorter zero l = refl
    shorter (suc n) [] = refl
    shorter (suc n) (x ∷ l) = ap (λ (r : List ℕ). x ∷ r) (shorter n l)
at_front (negsuc k) room = refl

pub is-empty : (l : List ℕ) → 0 ≡ length l → l ≡ []
is-empty [] e = refl
is-empty (x ∷ l) e = let z : ⊥ = omega arith in absurd z

-- a read is taken. The code reads the number that it answered back from its bits: `seen`
pub taken : (got : ℤ) (room : List ℕ) {seen : ℤ} → seen ≡ got → {count : ℕ} → count ≡ count_in seen (length room) → {ended : Bool} → ended ≡ is_end seen
    → (count ≡ length (bytes_read got room)) × (ended ≡ is_end got)
taken got room same c e = (c ∙ ap (λ (z : ℤ). count_in z (length room)) same ∙ counted got room, e ∙ ap is_end same)

-- reads into a block, as the loop makes them: before one, its first `count` bytes are read
pub record AtByte (front block₀ block : List ℕ) (count : ℕ) : Type 0 where
  pub within : count ≤ length block
  pub long : length block ≡ length block₀
  pub brought : Brought front (take count block)

-- a read from byte `count` on, to the rest of the block
module _ {front block₀ block : List ℕ} {count : ℕ} (at : AtByte front block₀ block count) (part : List ℕ) (kept : length part ≡ length (mid_of count (length block - count) block)) where
  abbrev after : List ℕ
  after = put_mid count (length block - count) block part

  pub as_long : length after ≡ length block₀
  as_long = same_len_mid count (length block - count) block part kept ∙ at.long

  part-long : length part ≡ length block - count
  part-long =
      let d : length (drop count block) ≡ length block - count = length-drop count block in
      kept ∙ length-take-le (length block - count) (drop count block) (omega arith)

  module _ {more-count : ℕ} {ended : Bool} (read : TakenRead part more-count ended) where
    pub in_block : count + more-count ≤ length block
    in_block = let w = at.within in omega (arith, read.count_is, few_bytes read.got part, part-long)

    -- so many bytes more are read
    more-read : take (count + more-count) after ≡ take count block ++ bytes_read read.got part
    more-read =
        let l : length (take count block) ≡ count = length-take-le count block at.within in
        let n : more-count ≤ length part = rw read.count_is (few_bytes read.got part) in
        ap (λ (n : ℕ). take (n + more-count) after) (sym l)
        ∙ take-append-add (take count block) (part ++ post_of count (length block - count) block) more-count
        ∙ ap (λ (r : List ℕ). take count block ++ r)
        (take-append-le more-count part (post_of count (length block - count) block) n
        ∙ ap (λ (n : ℕ). take n part) read.count_is
        ∙ sym (at_front read.got part))

    pub next-byte : 0 < more-count → AtByte front block₀ after (count + more-count)
    next-byte h =
        record {
          within = omega (arith, in_block, as_long, at.long);
          long = as_long;
          brought = rw more-read (more read.got part at.brought (omega (arith, read.count_is)));
        }

    -- a read that brought nothing: the block is read
    pub no_more : more-count ≡ 0 → count < length block → ReadOn front after count ended
    no_more z room-left =
        record {
          within = omega (arith, in_block, as_long, at.long);
          brought = rw nothing-new at.brought;
          stopped = λ h. record { room = part; taken = record { got = read.got; count_is = sym z ∙ read.count_is; ended_is = read.ended_is } };
          filled = λ h. let z : ⊥ = omega (arith, as_long, at.long) in absurd z;
        }
      where
        nothing-new : take count after ≡ take count block
        nothing-new = take_at (take count block) (part ++ post_of count (length block - count) block) count (length-take-le count block at.within)

-- before the first read, and where the room is full
pub at_first : (block : List ℕ) (from : ℕ) {count : ℕ} → count ≡ min from (length block) → AtByte (take from block) block block count
at_first block from {count} e =
    record {
      within = rw e (min-le_right from (length block));
      long = refl;
      brought = subst (λ (l : List ℕ). Brought (take from block) l) (sym (ap (λ (n : ℕ). take n block) e ∙ as-far from block)) none;
    }
  where
    as-far : (n : ℕ) (l : List ℕ) → take (min n (length l)) l ≡ take n l
    as-far n l = ap (λ (m : ℕ). take m l) (sym (length-take n l)) ∙ sym (at_front (pos n) l)

pub full : {front block₀ block : List ℕ} {count : ℕ} → AtByte front block₀ block count → length block ≤ count → ReadOn front block count false
full at h = record { within = at.within; brought = at.brought; stopped = λ l. let z : ⊥ = omega arith in absurd z; filled = λ _. refl }
