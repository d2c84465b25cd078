-- The rule at a residual that is kept as a natural number `half` larger, for any half window: b stands for b - half, `sub_ℕ b half`.
-- Assumes nothing.
use Prim.Native.Nat.{ℕ, suc, ◌+◌, ◌-◌, ◌*◌, ◌/◌, ◌%◌, ◌≤◌, ◌<◌}
use mathlib.Core.Path.{◌≡◌, sym, ◌∙◌, ap}
use mathlib.Core.Bool.{cond}
use mathlib.Core.Logic.{⊎_elim}
use native.Mathlib.Nat.{div-add-mod, mod-lt}
use native.Mathlib.Omega.{arith}
use borrow.Author.Tests.{lt-ltb, le-ltb}
use lib.Dec.{ltb}
use lib.IntN.{ℤ, pos, neg_ℤ, nat_abs, sub_ℕ, ◌+ℤ◌, ◌-ℤ◌}
use lib.Signed.{shr_z, quot_z}
use Rattle.separator.specs.Rule.{reading, cells_at, offset_at, halved, residual_after}
use Rattle.separator.proofs.Differences.{lt-or-le, sub-pos, sub-neg, sub_same, pos-sub, add-sub, neg-sub, minus-sub}

-- `half` more than half of m - half, rounded towards zero
unfoldable pub halfway : ℕ → ℕ → ℕ
halfway half m = cond (ltb m half) (half - (half - m) / 2) (half + (m - half) / 2)

module _ (half m : ℕ) where
  pub halfway-below : m < half → halfway half m ≡ half - (half - m) / 2
  unfolding halfway
  halfway-below h = rw (lt-ltb m half h)

  pub halfway-above : half ≤ m → halfway half m ≡ half + (m - half) / 2
  unfolding halfway
  halfway-above h = rw (le-ltb m half h)

  -- twice it is m + half, but for the rounding
  pub halfway-twice : (2 * halfway half m ≤ m + half + 1) × (m + half ≤ 2 * halfway half m + 1)
  halfway-twice =
      ⊎_elim (λ k. let e = halfway-below k in (omega arith, omega arith)) (λ k. let e = halfway-above k in (omega arith, omega arith)) (lt-or-le m half)

  pub halfway-range : m < 2 * half → (half ≤ 2 * halfway half m) × (2 * halfway half m < 3 * half)
  halfway-range h =
      ⊎_elim (λ k. let e = halfway-below k in (omega arith, omega arith)) (λ k. let e = halfway-above k in (omega arith, omega arith)) (lt-or-le m half)

  pub halved_is : halved (sub_ℕ m half) ≡ sub_ℕ (halfway half m) half
  unfolding halved
  halved_is = ⊎_elim below above (lt-or-le m half)
    where
      below : m < half → quot_z (sub_ℕ m half) (pos 2) ≡ sub_ℕ (halfway half m) half
      below k =
          let e = halfway-below k in
          let q : suc (half - suc m) ≡ half - m = omega arith in
          ap (λ (z : ℤ). quot_z z (pos 2)) (sub-neg m half k)
          ∙ ap (λ (n : ℕ). neg_ℤ (pos (n / 2))) q
          ∙ ap neg_ℤ (pos-sub ((half - m) / 2))
          ∙ neg-sub ((half - m) / 2) 0
          ∙ sub_same 0 ((half - m) / 2) (halfway half m) half (omega arith)

      above : half ≤ m → quot_z (sub_ℕ m half) (pos 2) ≡ sub_ℕ (halfway half m) half
      above k =
          let e = halfway-above k in
          ap (λ (z : ℤ). quot_z z (pos 2)) (sub-pos m half k)
          ∙ pos-sub ((m - half) / 2)
          ∙ sub_same ((m - half) / 2) 0 (halfway half m) half (omega arith)

module _ (half b t : ℕ) where
  reading-is : reading (sub_ℕ b half) t ≡ sub_ℕ (t + b) half
  unfolding reading
  reading-is =
      ap (λ (z : ℤ). z +ℤ sub_ℕ b half) (pos-sub t)
      ∙ add-sub t 0 b half
      ∙ sub_same (t + b) (0 + half) (t + b) half (omega arith)

  -- u and half a window, which are never below 0 together
  lifted-reading : reading (sub_ℕ b half) t +ℤ pos half ≡ pos (t + b)
  lifted-reading =
      ap (λ (z : ℤ). z +ℤ pos half) reading-is
      ∙ ap (λ (z : ℤ). sub_ℕ (t + b) half +ℤ z) (pos-sub half)
      ∙ add-sub (t + b) half half 0
      ∙ sub_same (t + b + half) (half + 0) (t + b) 0 (omega arith)
      ∙ sym (pos-sub (t + b))

  pub cells_is : cells_at half (sub_ℕ b half) t ≡ (t + b) / (2 * half)
  unfolding cells_at
  cells_is = ap (λ (z : ℤ). nat_abs (shr_z z (2 * half))) lifted-reading

  pub offset-is : offset_at half (sub_ℕ b half) t ≡ sub_ℕ ((t + b) % (2 * half)) half
  unfolding offset_at
  offset-is =
      let n = (t + b) / (2 * half) in
      let d : 2 * half * n + (t + b) % (2 * half) ≡ t + b = div-add-mod (t + b) (2 * half) in
      ap (λ (k : ℕ). reading (sub_ℕ b half) t -ℤ pos (2 * half * k)) cells_is
      ∙ ap (λ (z : ℤ). z -ℤ pos (2 * half * n)) reading-is
      ∙ ap (λ (z : ℤ). sub_ℕ (t + b) half -ℤ z) (pos-sub (2 * half * n))
      ∙ minus-sub (t + b) half (2 * half * n) 0
      ∙ sub_same (t + b + 0) (half + 2 * half * n) ((t + b) % (2 * half)) half (omega arith)

  pub residual-is : residual_after half (sub_ℕ b half) t ≡ sub_ℕ (halfway half ((t + b) % (2 * half))) half
  unfolding residual_after
  residual-is = ap halved offset-is ∙ halved_is half ((t + b) % (2 * half))

-- a residual that a step can leave: from half of -half up to just below half of half
pub record Kept (half : ℕ) (r : ℤ) : Type 0 where
  pub lifted : ℕ
  pub low : half ≤ 2 * lifted
  pub high : 2 * lifted < 3 * half
  pub is : sub_ℕ lifted half ≡ r

pub kept-none : (half : ℕ) → 0 < half → Kept half (pos 0)
kept-none half h =
    record { lifted = half; low = omega arith; high = omega arith; is = sub_same half half 0 0 (omega arith) ∙ sym (pos-sub 0) }

pub kept_next : (half : ℕ) → 0 < half → (r : ℤ) (t : ℕ) → Kept half r → Kept half (residual_after half r t)
kept_next half h r t k =
    let m = (t + k.lifted) % (2 * half) in
    let l = halfway-range half m (mod-lt (t + k.lifted) (omega arith)) in
    record {
      lifted = halfway half m;
      low = l.0;
      high = l.1;
      is = sym (residual-is half k.lifted t) ∙ ap (λ (z : ℤ). residual_after half z t) k.is;
    }
