-- Border pulses: which offsets are those of one, and how many a pulse counts for. Assumes nothing.
use Prim.Native.Nat.{ℕ, ◌+◌, ◌≤◌}
use mathlib.Core.Path.{◌≡◌, refl}
use mathlib.Core.Bool.{Bool, true, false, cond, ◌||◌}
use native.Mathlib.Omega.{arith}
use lib.Dec.{T}
use lib.IntN.{ℤ, pos, negsuc}
use lib.Signed.{le_z}
use Rattle.separator.specs.Rule.{is_border_by, border_pulses_at_by, double_half_window, single_half_window}
use Rattle.separator.proofs.Differences.{up, down}
use Rattle.separator.proofs.Orders.{le_of}

module _ (half : ℕ) (e : ℤ) where
  pub border-few : border_pulses_at_by half e ≤ 1
  unfolding border_pulses_at_by
  border-few = go (is_border_by half e)
    where
      go : (x : Bool) → cond x 1 0 ≤ 1
      go true = omega arith
      go false = omega arith

-- for double density an offset from -901 to 901 is that of none
pub border-near : (e : ℤ) → up e ≤ down e + 901 → down e ≤ up e + 901 → border_pulses_at_by double_half_window e ≡ 0
unfolding border_pulses_at_by is_border_by
border-near e a b = go (le_z e (negsuc 901)) (le_z (pos 902) e) (λ t. omega (arith, le_of e (negsuc 901) t)) (λ t. omega (arith, le_of (pos 902) e t))
  where
    go : (x y : Bool) → (T x → ⊥) → (T y → ⊥) → ◌≡◌ {A = ℕ} (cond (x || y) 1 0) 0
    go true y f g = absurd (f tt)
    go false true f g = absurd (g tt)
    go false false f g = refl

-- the limits: -902 and 902 are offsets of a border pulse for double density, -901 and 901 are not; for single density they are twice that
pub limits : (border_pulses_at_by double_half_window (negsuc 901) ≡ 1) × (border_pulses_at_by double_half_window (negsuc 900) ≡ 0)
    × (border_pulses_at_by double_half_window (pos 901) ≡ 0) × (border_pulses_at_by double_half_window (pos 902) ≡ 1)
unfolding border_pulses_at_by is_border_by
limits = (refl, refl, refl, refl)

pub limits-single : (border_pulses_at_by single_half_window (negsuc 1803) ≡ 1) × (border_pulses_at_by single_half_window (negsuc 1802) ≡ 0)
    × (border_pulses_at_by single_half_window (pos 1803) ≡ 0) × (border_pulses_at_by single_half_window (pos 1804) ≡ 1)
unfolding border_pulses_at_by is_border_by
limits-single = (refl, refl, refl, refl)
