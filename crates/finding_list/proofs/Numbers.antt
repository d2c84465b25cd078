-- Findings as numbers, and findings put into a list of numbers one after the other. Assumes nothing.
use Prim.Native.Nat.{ℕ, suc, ◌+◌, ◌-◌, ◌*◌, ◌≤◌, ◌<◌}
use mathlib.Core.Path.{◌≡◌, refl, sym, ap, ◌∙◌}
use mathlib.Core.List.{List, [], ◌∷◌, ◌++◌, append_assoc, append-nil}
use native.Mathlib.Omega.{arith}
use lib.ListN.{length, take, drop, set, length-append, take-append-drop}
use lib.Seq.{length-sets, sets-eq, take_at, drop_at, drop-drop, length-take-le}
use Rattle.basis.specs.Lists.{joined, written_over}
use Rattle.basis.proofs.Joined.{joined-none, joined-more, joined-grows}
use Rattle.finding_list.specs.Calls.{numbers_of, most_findings}
use Rattle.finding_list.specs.PrivateContracts.{Room, Added}
use Rattle.finding_list.specs.declared.Finding.{Finding}

pub numbers-append : (xs ys : List Finding) → numbers_of (xs ++ ys) ≡ numbers_of xs ++ numbers_of ys
unfolding numbers_of
numbers-append [] ys = refl
numbers-append (x ∷ xs) ys = rw (numbers-append xs ys)

pub length-numbers : (xs : List Finding) → length (numbers_of xs) ≡ 4 * length xs
unfolding numbers_of
length-numbers [] = refl
length-numbers (x ∷ xs) = omega (arith, length-numbers xs)

module _ {before : List ℕ} {at : ℕ} where
  -- nothing, and one finding
  pub added_none : (xs : List Finding) → Room before at xs → Added before at [] before at
  unfolding numbers_of
  added_none xs room = record { long = room.long; count = omega arith; front = sym (append-nil (take (4 * at) before)); rest = refl }

  pub added-one : (x : Finding) → Room before at (x ∷ [])
      → Added before at (x ∷ []) (set (set (set (set before (4 * at) x.kind) (4 * at + 1) x.level) (4 * at + 2) x.place) (4 * at + 3) x.detail) (at + 1)
  unfolding numbers_of
  added-one x room =
      let four = x.kind ∷ x.level ∷ x.place ∷ x.detail ∷ [] in
      let e₁ : 4 * at + 1 ≡ suc (4 * at) = omega arith in
      let e₂ : 4 * at + 2 ≡ suc (suc (4 * at)) = omega arith in
      let e₃ : 4 * at + 3 ≡ suc (suc (suc (4 * at))) = omega arith in
      let inside : 4 * at + 4 ≤ length before = omega (arith, room.long, room.fits) in
      let end : 4 * (at + 1) ≡ 4 * at + 4 = omega arith in
      let long : length (take (4 * at) before ++ four) ≡ 4 * at + 4 = omega (arith, length-append (take (4 * at) before) four, length-take-le (4 * at) before (omega arith)) in
      rw (e₁, e₂, e₃)
      record {
        long = length-sets before (4 * at) four ∙ room.long;
        count = refl;
        front = rw (end, sets-eq four before (4 * at) inside)
            (take_at (take (4 * at) before ++ four) (drop (4 * at + 4) before) (4 * at + 4) long);
        rest = rw (end, sets-eq four before (4 * at) inside)
            (drop_at (take (4 * at) before ++ four) (drop (4 * at + 4) before) (4 * at + 4) long);
      }

  -- some findings, and then more
  module _ {xs : List Finding} {between : List ℕ} {mid : ℕ} (first : Added before at xs between mid) where
    pub added_then : {ys : List Finding} {after : List ℕ} {next : ℕ} → Added between mid ys after next → Added before at (xs ++ ys) after next
    added_then {ys} {after} {next} second =
        record {
          long = second.long;
          count = omega (arith, first.count, second.count, length-append xs ys);
          front = second.front ∙ rw (first.front, numbers-append xs ys) (append_assoc (take (4 * at) before) (numbers_of xs) (numbers_of ys));
          rest = second.rest ∙ later;
        }
      where
        later : drop (4 * next) between ≡ drop (4 * next) before
        later =
            let e : 4 * mid + 4 * length ys ≡ 4 * next = omega (arith, second.count) in
            rw e at (sym (drop-drop (4 * length ys) (4 * mid) between) ∙ ap (drop (4 * length ys)) first.rest ∙ drop-drop (4 * length ys) (4 * mid) before)

-- the same of lists and numbers that are equal
module _ {before other : List ℕ} {at mid : ℕ} {xs ys : List Finding} (e : before ≡ other) (f : at ≡ mid) (g : xs ≡ ys) where
  pub added-same : {after : List ℕ} {next : ℕ} → Added before at xs after next → Added other mid ys after next
  added-same added = rw (← e, ← f, ← g) added

  pub room-same : Room before at xs → Room other mid ys
  room-same room = rw (← e, ← f, ← g) room

-- findings joined look by look, or kind by kind
module _ (f : ℕ → List Finding) {before : List ℕ} {at : ℕ} where
  pub joined-start : (n : ℕ) → Room before at (joined f n) → Added before at (joined f 0) before at
  joined-start n room = rw joined-none (added_none (joined f n) room)

  pub joined-next : (i : ℕ) {between after : List ℕ} {mid next : ℕ} → Added before at (joined f i) between mid → Added between mid (f i) after next
      → Added before at (joined f (i + 1)) after next
  joined-next i first second = rw joined-more (added_then first second)

  pub joined-room : (n i : ℕ) {between : List ℕ} {mid : ℕ} → i < n → Added before at (joined f i) between mid → at + length (joined f n) ≤ most_findings
      → Room between mid (f i)
  joined-room n i h first room =
      let e : i + 1 + (n - (i + 1)) ≡ n = omega arith in
      let l = rw e at (joined-grows f (i + 1) (n - (i + 1))) in
      let m : length (joined f (i + 1)) ≡ length (joined f i) + length (f i) = rw joined-more (length-append (joined f i) (f i)) in
      record { long = first.long; fits = omega (arith, first.count) }

-- findings joined kind by kind, and in a kind look by look: `g k` gives what kind k finds at a look, and c looks are all of it
module _ (f : ℕ → List Finding) (g : ℕ → ℕ → List Finding) {before : List ℕ} {at : ℕ} where
  pub looks-start : (k : ℕ) {numbers : List ℕ} {next : ℕ} → Added before at (joined f k) numbers next → Added before at (joined f k ++ joined (g k) 0) numbers next
  looks-start k added = rw (joined-none, append-nil) added

  pub looks-more : (k i : ℕ) {between after : List ℕ} {mid next : ℕ} → Added before at (joined f k ++ joined (g k) i) between mid → Added between mid (g k i) after next
      → Added before at (joined f k ++ joined (g k) (i + 1)) after next
  looks-more k i first second = rw joined-more (rw append_assoc at (added_then first second))

  pub looks-end : (k c : ℕ) {numbers : List ℕ} {next : ℕ} → joined (g k) c ≡ f k → Added before at (joined f k ++ joined (g k) c) numbers next
      → Added before at (joined f (k + 1) ++ joined (g (k + 1)) 0) numbers next
  looks-end k c e added = looks-start (k + 1) (rw joined-more (rw e at added))

  pub looks-room : (n k c i : ℕ) {between : List ℕ} {mid : ℕ} → k < n → i < c → joined (g k) c ≡ f k → Added before at (joined f k ++ joined (g k) i) between mid
      → at + length (joined f n) ≤ most_findings → Room between mid (g k i)
  looks-room n k c i h l e first room =
      let a : k + 1 + (n - (k + 1)) ≡ n = omega arith in
      let b : i + 1 + (c - (i + 1)) ≡ c = omega arith in
      let p = rw a at (joined-grows f (k + 1) (n - (k + 1))) in
      let q = rw b at (joined-grows (g k) (i + 1) (c - (i + 1))) in
      let r : length (joined f (k + 1)) ≡ length (joined f k) + length (f k) = rw joined-more (length-append (joined f k) (f k)) in
      let s : length (joined (g k) (i + 1)) ≡ length (joined (g k) i) + length (g k i) = rw joined-more (length-append (joined (g k) i) (g k i)) in
      record { long = first.long; fits = omega (arith, first.count, ap length e, length-append (joined f k) (joined (g k) i)) }

-- all of them, from zeros on
pub array-is : (xs : List Finding) (zeros after : List ℕ) (count : ℕ) → Added zeros 0 xs after count → (count ≡ length xs) × (after ≡ written_over (numbers_of xs) zeros)
array-is xs zeros after count added =
    let c : count ≡ length xs = omega (arith, added.count) in
    let n : 4 * count ≡ length (numbers_of xs) = omega (arith, length-numbers xs) in
    (c, sym (take-append-drop (4 * count) after) ∙ rw (added.front, added.rest, n))
