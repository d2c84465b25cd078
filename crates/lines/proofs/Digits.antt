-- The digits of a number. Assumes nothing.
use Prim.Native.Nat.{ℕ, zero, suc, ◌*◌, ◌/◌, ◌≤◌, ◌<◌}
use mathlib.Core.Path.{◌≡◌, refl, ap, ◌∙◌}
use mathlib.Core.Bool.{Bool, true, false, cond}
use mathlib.Core.List.{List, [], ◌∷◌, ◌++◌}
use native.Mathlib.Omega.{arith}
use borrow.Author.Tests.{lt-ltb, le-ltb, ltb-true, ltb-false}
use lib.Dec.{ltb}
use lib.ListN.{length, length-append}
use Rattle.lines.specs.Lines.{digit, digits_within, decimal_of}

-- any number of digits that is enough gives the same
enough : (k j n : ℕ) → n ≤ k → n ≤ j → digits_within (suc k) n ≡ digits_within (suc j) n
unfolding digits_within
enough zero zero n h g = refl
enough zero (suc j) n h g = rw (lt-ltb n 10 (omega arith))
enough (suc k) zero n h g = rw (lt-ltb n 10 (omega arith))
enough (suc k) (suc j) n h g = go (ltb n 10) refl (enough k j (n / 10))
  where
    go : (b : Bool) → ltb n 10 ≡ b → (n / 10 ≤ k → n / 10 ≤ j → digits_within (suc k) (n / 10) ≡ digits_within (suc j) (n / 10))
        → cond b (digit n ∷ []) (digits_within (suc k) (n / 10) ++ (digit n ∷ [])) ≡ cond b (digit n ∷ []) (digits_within (suc j) (n / 10) ++ (digit n ∷ []))
    go true e before = refl
    go false e before =
        let l = ltb-false n 10 e in
        rw (before (omega arith) (omega arith))

-- a number below 10, and any other
pub decimal-small : (n : ℕ) → n < 10 → decimal_of n ≡ digit n ∷ []
unfolding decimal_of digits_within
decimal-small n h = rw (lt-ltb n 10 h)

pub decimal-more : (n : ℕ) → 10 ≤ n → decimal_of n ≡ decimal_of (n / 10) ++ (digit n ∷ [])
unfolding decimal_of digits_within
decimal-more zero h = absurd (omega arith)
decimal-more (suc m) h =
    rw (le-ltb (suc m) 10 h)
    (ap (λ (d : List ℕ). d ++ (digit (suc m) ∷ [])) (enough m (suc m / 10) (suc m / 10) (omega arith) (omega arith)))

-- how many digits a number has
abbrev tens : ℕ → ℕ
tens zero = 1
tens (suc k) = 10 * tens k

decimal-within : (k n : ℕ) → n < tens (suc k) → length (decimal_of n) ≤ suc k
decimal-within zero n h = omega (arith, ap length (decimal-small n (omega arith)))
decimal-within (suc k) n h = go (ltb n 10) refl (decimal-within k (n / 10))
  where
    go : (b : Bool) → ltb n 10 ≡ b → (n / 10 < tens (suc k) → length (decimal_of (n / 10)) ≤ suc k) → length (decimal_of n) ≤ suc (suc k)
    go true e before = omega (arith, ap length (decimal-small n (ltb-true n 10 e)))
    go false e before =
        let l = ap length (decimal-more n (ltb-false n 10 e)) ∙ length-append (decimal_of (n / 10)) (digit n ∷ []) in
        omega (arith, l, before (omega arith))

-- of 32 bits at most 10
pub decimal-short : (n : ℕ) → n < 0x1_0000_0000 → length (decimal_of n) ≤ 10
decimal-short n h = decimal-within 9 n (omega arith)

-- before the last digit of a number of 32 bits there are at most nine
pub before_last : (n : ℕ) → n < 0x1_0000_0000 → length (decimal_of (n / 10)) ≤ 9
before_last n fits = decimal-within 8 (n / 10) (omega arith)
