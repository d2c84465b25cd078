-- The table of a block: its numbers, and the revolutions that are bad. Assumes nothing.
use Prim.Native.Nat.{ℕ, zero, suc, ◌+◌, ◌-◌, ◌*◌, ◌≤◌, ◌<◌}
use mathlib.Core.Path.{◌≡◌, refl, sym, ◌∙◌, ap}
use mathlib.Core.Bool.{true, false}
use mathlib.Core.List.{List, [], ◌∷◌}
use native.Mathlib.Omega.{arith}
use borrow.Author.Tests.{lt-ltb, le-ltb}
use lib.Dec.{eqb}
use lib.ListN.{length, get_or, take, drop, length-drop}
use lib.Seq.{get_or-drop, get_or-take, length-take-le}
use Rattle.basis.specs.Bytes.{four_bytes, number}
use Rattle.basis.specs.Search.{least}
use Rattle.basis.proofs.Search.{least_step, least-hit, least-end}
use Rattle.supercard_pro.specs.TrackBlock.{value_count, value_offset, table_end, ends_in_zero, bad_revolution, some_bad}
use Rattle.revolution_portions.specs.Timings.{values_of}

-- a number at a place of the block
pub number_here : (block : List ℕ) (at : ℕ)
    → four_bytes (get_or block at 0) (get_or block (at + 1) 0) (get_or block (at + 2) 0) (get_or block (at + 3) 0) ≡ number (drop at block)
number_here block at =
    let e : at + 0 ≡ at = omega arith in
    rw (get_or-drop at block 0 0, get_or-drop at block 1 0, get_or-drop at block 2 0, get_or-drop at block 3 0, e)

-- the last of n values, of which there is one at least
ends_last : (n : ℕ) (bytes : List ℕ) → length bytes ≡ 2 * suc n
    → ends_in_zero (values_of bytes) ≡ eqb (256 * get_or bytes (2 * n) 0 + get_or bytes (2 * n + 1) 0) 0
unfolding values_of ends_in_zero
ends_last n [] e = absurd (omega arith)
ends_last n (high ∷ []) e = absurd (omega arith)
ends_last zero (high ∷ low ∷ []) e = refl
ends_last zero (high ∷ low ∷ more ∷ bytes) e = absurd (omega arith)
ends_last (suc n) (high ∷ low ∷ []) e = absurd (omega arith)
ends_last (suc n) (high ∷ low ∷ more ∷ []) e = absurd (omega arith)
ends_last (suc n) (high ∷ low ∷ h ∷ l ∷ bytes) e =
    let a : 2 * suc n + 1 ≡ suc (suc (2 * n + 1)) = omega arith in
    let b : 2 * suc n ≡ suc (suc (2 * n)) = omega arith in
    rw (a, b) (ends_last n (h ∷ l ∷ bytes) (omega arith))

-- a revolution, judged as the code does: from its offset, where its values end, and their last
module _ (block : List ℕ) (revolutions k : ℕ) {from count : ℕ} (from_is : from ≡ value_offset block k) (count_is : count ≡ value_count block k) where
  pub starts-in-table : from < table_end revolutions → true ≡ bad_revolution block revolutions k
  unfolding bad_revolution
  starts-in-table h = rw (← from_is, lt-ltb from (table_end revolutions) h)

  module _ (after : table_end revolutions ≤ from) where
    pub ends-beyond : length block < from + 2 * count → true ≡ bad_revolution block revolutions k
    unfolding bad_revolution
    ends-beyond h = rw (← from_is, ← count_is, le-ltb from (table_end revolutions) after, lt-ltb (length block) (from + 2 * count) h)

    module _ (inside : from + 2 * count ≤ length block) where
      left : bad_revolution block revolutions k ≡ ends_in_zero (values_of (take (2 * count) (drop from block)))
      unfolding bad_revolution
      left = rw (← from_is, ← count_is, le-ltb from (table_end revolutions) after, le-ltb (length block) (from + 2 * count) inside)

      pub no-values : count ≡ 0 → false ≡ bad_revolution block revolutions k
      unfolding values_of ends_in_zero
      no-values e = sym (left ∙ rw e)

      pub last-value : (count ≡ 0 → ⊥) → {value : ℕ} → value ≡ 256 * get_or block (from + 2 * count - 2) 0 + get_or block (from + 2 * count - 1) 0
          → eqb value 0 ≡ bad_revolution block revolutions k
      last-value some {value} is = sym (left ∙ ends_last (count - 1) (take (2 * count) (drop from block)) long ∙ ap (λ (v : ℕ). eqb v 0) same)
        where
          long : length (take (2 * count) (drop from block)) ≡ 2 * suc (count - 1)
          long =
              let l = length-drop from block in
              length-take-le (2 * count) (drop from block) (omega arith) ∙ omega arith

          at : (i : ℕ) → i < 2 * count → get_or (take (2 * count) (drop from block)) i 0 ≡ get_or block (from + i) 0
          at i h = get_or-take (2 * count) (drop from block) i 0 h ∙ get_or-drop from block i 0

          same : 256 * get_or (take (2 * count) (drop from block)) (2 * (count - 1)) 0 + get_or (take (2 * count) (drop from block)) (2 * (count - 1) + 1) 0 ≡ value
          same =
              let a : from + 2 * (count - 1) ≡ from + 2 * count - 2 = omega arith in
              let b : from + (2 * (count - 1) + 1) ≡ from + 2 * count - 1 = omega arith in
              let x = at (2 * (count - 1)) (omega arith) ∙ ap (λ (i : ℕ). get_or block i 0) a in
              let y = at (2 * (count - 1) + 1) (omega arith) ∙ ap (λ (i : ℕ). get_or block i 0) b in
              rw (x, y) (sym is)

-- some revolution, looked for from the first on
module _ (block : List ℕ) (revolutions : ℕ) where
  -- none of those before k is bad
  abbrev pub NoneBefore : ℕ → Type 0
  NoneBefore k = least (bad_revolution block revolutions) (revolutions - k) k ≡ least (bad_revolution block revolutions) (revolutions - 0) 0

  pub none_more : (k : ℕ) → NoneBefore k → k < revolutions → bad_revolution block revolutions k ≡ false → NoneBefore (k + 1)
  none_more k e h b = sym (least_step (bad_revolution block revolutions) k revolutions h b) ∙ e

  pub found-bad : (k : ℕ) → NoneBefore k → k < revolutions → bad_revolution block revolutions k ≡ true → true ≡ some_bad block revolutions
  found-bad k e h b =
      let s : revolutions - 0 ≡ revolutions = omega arith in
      let f : least (bad_revolution block revolutions) revolutions 0 ≡ k
      = ap (λ (n : ℕ). least (bad_revolution block revolutions) n 0) (sym s) ∙ sym e ∙ least-hit (bad_revolution block revolutions) k revolutions h b in
      rw f (sym (lt-ltb k revolutions h))

  pub found_none : (k : ℕ) → NoneBefore k → revolutions ≤ k → false ≡ some_bad block revolutions
  found_none k e h =
      let s : revolutions - 0 ≡ revolutions = omega arith in
      let f : least (bad_revolution block revolutions) revolutions 0 ≡ k
      = ap (λ (n : ℕ). least (bad_revolution block revolutions) n 0) (sym s) ∙ sym e ∙ least-end (bad_revolution block revolutions) k revolutions h in
      rw f (sym (le-ltb k revolutions h))
