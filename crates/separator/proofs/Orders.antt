-- Orders and sizes of integers, by the two parts of each. Assumes nothing.
use mathlib.Core.Path.{◌≡◌, refl, sym}
use mathlib.Core.Logic.{⊎_elim}
use mathlib.Core.Bool.{true, false}
use Prim.Native.Nat.{ℕ, ◌+◌, ◌≤◌, ◌<◌}
use native.Mathlib.Omega.{arith}
use borrow.Author.Tests.{le-leb, lt-leb, ltb-true, ltb-false}
use lib.Dec.{T, leb→le, le→leb}
use lib.IntN.{ℤ, pos, negsuc, nat_abs, sub_ℕ}
use lib.Signed.{le_z, lt_z, mag}
use Rattle.separator.proofs.Differences.{up, down, lt-or-le, sub-pos, sub-neg, sub_parts}

-- an order of two differences
pub le_of : (x y : ℤ) → T (le_z x y) → up x + down y ≤ up y + down x
le_of (pos a) (pos b) t = omega (arith, leb→le a b t)
le_of (pos a) (negsuc b) t = absurd t
le_of (negsuc a) (pos b) t = omega arith
le_of (negsuc a) (negsuc b) t = omega (arith, leb→le b a t)

raw-le : (x y : ℤ) → up x + down y ≤ up y + down x → T (le_z x y)
raw-le (pos a) (pos b) h = le→leb a b (omega arith)
raw-le (pos a) (negsuc b) h = let z : ⊥ = omega arith in absurd z
raw-le (negsuc a) (pos b) h = tt
raw-le (negsuc a) (negsuc b) h = le→leb b a (omega arith)

pub sub-le : (a b c d : ℕ) → a + d ≤ c + b → T (le_z (sub_ℕ a b) (sub_ℕ c d))
sub-le a b c d h =
    let p = sub_parts a b in
    let q = sub_parts c d in
    raw-le (sub_ℕ a b) (sub_ℕ c d) (omega arith)

pub abs-le : (x : ℤ) (k : ℕ) → up x ≤ down x + k → down x ≤ up x + k → nat_abs x ≤ k
abs-le (pos n) k h j = omega arith
abs-le (negsuc n) k h j = omega arith

pub le-abs : (x : ℤ) (k : ℕ) → nat_abs x ≤ k → (up x ≤ down x + k) × (down x ≤ up x + k)
le-abs (pos n) k h = (omega arith, omega arith)
le-abs (negsuc n) k h = (omega arith, omega arith)

-- a test of order that held, and one that failed, as `le_z` the other way round
pub lt_not_le : (x y : ℤ) → lt_z x y ≡ true → le_z y x ≡ false
lt_not_le (pos a) (pos b) e = lt-leb b a (ltb-true a b e)
lt_not_le (pos a) (negsuc b) e = sym e
lt_not_le (negsuc a) (pos b) e = refl
lt_not_le (negsuc a) (negsuc b) e = lt-leb a b (ltb-true b a e)

pub not-lt-le : (x y : ℤ) → lt_z x y ≡ false → le_z y x ≡ true
not-lt-le (pos a) (pos b) e = le-leb b a (ltb-false a b e)
not-lt-le (pos a) (negsuc b) e = refl
not-lt-le (negsuc a) (pos b) e = sym e
not-lt-le (negsuc a) (negsuc b) e = le-leb a b (ltb-false b a e)

-- a difference of two small numbers is small
pub mag-sub : (a b k : ℕ) → a < k → b ≤ k → mag (sub_ℕ a b) < k
mag-sub a b k h j = ⊎_elim (lo a b k h j) (hi a b k h j) (lt-or-le a b)
  where
    lo : (a b k : ℕ) → a < k → b ≤ k → a < b → mag (sub_ℕ a b) < k
    lo a b k h j l = rw (sub-neg a b l) (omega arith)

    hi : (a b k : ℕ) → a < k → b ≤ k → b ≤ a → mag (sub_ℕ a b) < k
    hi a b k h j l = rw (sub-pos a b l) (omega arith)
