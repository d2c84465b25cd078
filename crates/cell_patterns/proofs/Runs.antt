-- Runs of zeros round a track, and what a pass from its last cell to its first knows of them. Assumes nothing.
use Prim.Native.Nat.{ℕ, zero, suc, ◌+◌, ◌-◌, ◌<◌, ◌≤◌}
use mathlib.Core.Path.{◌≡◌, refl, ◌∙◌}
use mathlib.Core.Bool.{Bool, true, false, cond}
use mathlib.Core.Logic.{◌⊎◌, inl, inr}
use native.Mathlib.Nat.{eq-or-lt_of_le}
use native.Mathlib.Omega.{arith}
use lib.Dec.{ltb}
use borrow.Author.Tests.{lt-ltb, ltb-true, ltb-false}
use Rattle.basis.specs.Search.{least}
use Rattle.basis.proofs.Search.{least-low, least-high, least-grows, least-longer, most-above}
use Rattle.cell_patterns.specs.Cells.{is_one, zeros_from, longest_run}

-- a is the least of m places from p + 1, b that of one place more
after-zero : (a b p m : ℕ) → p + 1 ≤ a → a ≤ p + 1 + m → b ≤ p + 1 + suc m → a ≤ b → (a < p + 1 + m → b ≡ a)
    → a - p ≡ b - (p + 1) + cond (ltb (b - (p + 1)) (suc m)) 1 0
after-zero a b p m low high high' up same = go (ltb (b - (p + 1)) (suc m)) refl (eq-or-lt_of_le {n = a} {m = p + 1 + m} high)
  where
    go : (x : Bool) → ltb (b - (p + 1)) (suc m) ≡ x → (a ≡ p + 1 + m) ⊎ (a < p + 1 + m) → a - p ≡ b - (p + 1) + cond x 1 0
    go true e (inl h) = omega (arith, ltb-true (b - (p + 1)) (suc m) e)
    go true e (inr h) = omega (arith, ltb-true (b - (p + 1)) (suc m) e, same h)
    go false e (inl h) = omega (arith, ltb-false (b - (p + 1)) (suc m) e)
    go false e (inr h) = omega (arith, ltb-false (b - (p + 1)) (suc m) e, same h)

-- the zeros from p on, by those from p + 1 on
module _ (f : ℕ → ℕ) where
  pub zeros-few : (n p : ℕ) → zeros_from f n p ≤ n
  unfolding zeros_from
  zeros-few n p = omega (arith, least-high (is_one f) n p)

  passed : (m p : ℕ) → is_one f p ≡ false → least (is_one f) (suc m) p ≡ least (is_one f) m (p + 1)
  unfolding least
  passed m p e = rw e

  zeros-at-zero : (n p : ℕ) → 0 < n → is_one f p ≡ false → zeros_from f n p ≡ zeros_from f n (p + 1) + cond (ltb (zeros_from f n (p + 1)) n) 1 0
  unfolding zeros_from
  zeros-at-zero zero p h e = absurd (omega arith)
  zeros-at-zero (suc m) p h e =
      let t = is_one f in
      rw (passed m p e)
      (after-zero (least t m (p + 1)) (least t (suc m) (p + 1)) p m
      (least-low t m (p + 1))
      (least-high t m (p + 1))
      (least-high t (suc m) (p + 1))
      (least-grows t m (p + 1))
      (λ l. least-longer t m (suc m) (p + 1) (omega arith) l))

-- Unless the track has no one, its longest run stands right after one: before its start stands no zero.
pub run-starts : (f : ℕ → ℕ) (n p : ℕ) → p < n → zeros_from f n (p + 1) ≡ longest_run f n → longest_run f n < n → is_one f p ≡ true
unfolding longest_run
run-starts f n p h e l = go (is_one f p) refl
  where
    go : (x : Bool) → is_one f p ≡ x → x ≡ true
    go true y = refl
    go false y =
        let z : zeros_from f n p ≡ zeros_from f n (p + 1) + 1 = zeros-at-zero f n p (omega arith) y ∙ rw (lt-ltb (zeros_from f n (p + 1)) n (omega arith)) in
        absurd (omega (arith, most-above (zeros_from f n) n 0 p (omega arith) (omega arith)))
