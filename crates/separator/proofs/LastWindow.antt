-- A reading z without the whole windows of its timing, by the test of half a window: z is b - half, `sub_ℕ b half`. Assumes nothing.
use Prim.Native.Nat.{ℕ, ◌+◌, ◌-◌, ◌*◌, ◌/◌, ◌%◌, ◌≤◌, ◌<◌}
use mathlib.Core.Path.{◌≡◌, sym, ◌∙◌, ap, subst}
use mathlib.Core.Bool.{true, false}
use mathlib.Core.Logic.{⊎_elim}
use native.Mathlib.Nat.{mod-eq_of_lt, mod-eq-sub-mod, div-eq_of_lt, div-eq_of_lt-le}
use native.Mathlib.Omega.{arith}
use lib.Dec.{T}
use lib.IntN.{ℤ, pos, negsuc, sub_ℕ, ◌-ℤ◌}
use lib.Signed.{le_z, lt_z}
use mir.Syntax.{w32}
use mir.Val.{SFits}
use Rattle.separator.proofs.Differences.{lt-or-le, sub_same, pos-sub, minus-sub, sub_parts}
use Rattle.separator.proofs.Orders.{le_of, sub-le, lt_not_le, not-lt-le, mag-sub}

-- how many windows a number below two of them has, and what is left of it
module _ (half b : ℕ) where
  pub none_below : b < 2 * half → 0 ≡ b / (2 * half)
  none_below h = sym (div-eq_of_lt h)

  pub one-past : 2 * half ≤ b → b < 4 * half → 1 ≡ b / (2 * half)
  one-past h k = sym (div-eq_of_lt-le {k = 1} (2 * half) (omega arith) (omega arith))

  left-past : 2 * half ≤ b → b < 4 * half → b % (2 * half) ≡ b - 2 * half
  left-past h k = mod-eq-sub-mod h ∙ mod-eq_of_lt (omega arith)

module _ (half b : ℕ) {z : ℤ} (is : sub_ℕ b half ≡ z) where
  pub below_half : lt_z z (pos half) ≡ true → b < 2 * half
  below_half e = ⊎_elim (λ h. h) (λ h. absurd (subst T (lt_not_le z (pos half) e) (least h))) (lt-or-le b (2 * half))
    where
      least : 2 * half ≤ b → T (le_z (pos half) z)
      least h = subst (λ (x : ℤ). T (le_z (pos half) x)) is (rw (pos-sub half) (sub-le half 0 b half (omega arith)))

  pub past-half : lt_z z (pos half) ≡ false → 2 * half ≤ b
  past-half e =
      let h = le_of (pos half) (sub_ℕ b half) (subst T (sym (ap (le_z (pos half)) is ∙ not-lt-le z (pos half) e)) tt) in
      omega (arith, sub_parts b half)

  pub offset-below : b < 2 * half → z ≡ sub_ℕ (b % (2 * half)) half
  offset-below h = sym is ∙ ap (λ (x : ℕ). sub_ℕ x half) (sym (mod-eq_of_lt h))

  pub offset-past : 2 * half ≤ b → b < 4 * half → z -ℤ pos (2 * half) ≡ sub_ℕ (b % (2 * half)) half
  offset-past h k =
      ap (λ (x : ℤ). x -ℤ pos (2 * half)) (sym is)
      ∙ ap (λ (x : ℤ). sub_ℕ b half -ℤ x) (pos-sub (2 * half))
      ∙ minus-sub b half (2 * half) 0
      ∙ sub_same (b + 0) (half + 2 * half) (b % (2 * half)) half (omega (arith, left-past half b h k))

-- a window less, from half a window on
pub window-less : (half : ℕ) → half ≤ 2000 → (z : ℤ) → SFits w32 z → lt_z z (pos half) ≡ false → SFits w32 (z -ℤ pos (2 * half))
window-less half small z f e = go z f (subst T (sym (not-lt-le z (pos half) e)) tt)
  where
    go : (x : ℤ) → SFits w32 x → T (le_z (pos half) x) → SFits w32 (x -ℤ pos (2 * half))
    go (pos n) g h =
        let d = ap (λ (x : ℤ). x -ℤ pos (2 * half)) (pos-sub n) ∙ ap (λ (x : ℤ). sub_ℕ n 0 -ℤ x) (pos-sub (2 * half)) ∙ minus-sub n 0 (2 * half) 0 in
        subst (SFits w32) (sym d) (record { sfits = mag-sub (n + 0) (0 + 2 * half) 2147483648 (omega (arith, g.sfits)) (omega arith) })
    go (negsuc n) g h = absurd h
