-- One window on a track whose cells are 2000 - D to 2000 + D ns and whose pulses are at most J off, in natural numbers. Assumes nothing.
--
-- j = jp - jm and k = kp - km are the errors of the pulses before and after, G the distance of their true places, and b - 1000 the
-- residual. What is carried from window to window: j and twice the residual are at most 8 D + J + 1 apart. The window's centre is then
-- at most 8 D + J from the true place: it keeps half of its error, and the gap adds 4 D at most.
use Prim.Native.Nat.{ℕ, zero, suc, ◌+◌, ◌-◌, ◌*◌, ◌/◌, ◌%◌, ◌≤◌}
use mathlib.Core.Path.{◌≡◌}
use native.Mathlib.Omega.{arith}
use Rattle.separator.proofs.Lifted.{halfway, halfway-twice}

-- 2 to 4 cells of 2000 - D to 2000 + D ns: each number of cells by itself, since D times a variable is no linear term
two-to-four : (P : ℕ → Type 0) → P 2 → P 3 → P 4 → (g : ℕ) → 2 ≤ g → g ≤ 4 → P g
two-to-four P x y z zero l m = absurd (omega arith)
two-to-four P x y z (suc zero) l m = absurd (omega arith)
two-to-four P x y z (suc (suc zero)) l m = x
two-to-four P x y z (suc (suc (suc zero))) l m = y
two-to-four P x y z (suc (suc (suc (suc zero)))) l m = z
two-to-four P x y z (suc (suc (suc (suc (suc g))))) l m = absurd (omega arith)

module _ (D : ℕ) (small : D ≤ 2000) where
  pub shortest-gap : (g : ℕ) → 2 ≤ g → g ≤ 4 → 2000 * g ≤ (2000 - D) * g + 4 * D
  shortest-gap = two-to-four (λ g. 2000 * g ≤ (2000 - D) * g + 4 * D) (omega arith) (omega arith) (omega arith)

  pub longest-gap : (g : ℕ) → 2 ≤ g → g ≤ 4 → (2000 + D) * g ≤ 2000 * g + 4 * D
  longest-gap = two-to-four (λ g. (2000 + D) * g ≤ 2000 * g + 4 * D) (omega arith) (omega arith) (omega arith)

pub record Carried (D J b jp jm : ℕ) : Type 0 where
  pub low : jp + 2000 ≤ jm + 2 * b + (8 * D + J + 1)
  pub high : jm + 2 * b ≤ jp + 2000 + (8 * D + J + 1)

-- at most d apart
pub record Apart (d x y : ℕ) : Type 0 where
  pub less : x ≤ y + d
  pub more : y ≤ x + d

module _ {D J b jp jm kp km : ℕ} (g G t : ℕ) (ok : 8 * D + 2 * J ≤ 998) (carried : Carried D J b jp jm) (before : Apart J jp jm) (after : Apart J kp km)
    (least : 2 ≤ g) (most : g ≤ 4) (gap : Apart (4 * D) G (2000 * g)) (timed : t + jp + km ≡ G + jm + kp) where
  pub window-cells : (t + b) / 2000 ≡ g
  window-cells = omega arith

  pub window-timing : (1 ≤ t) × (t ≤ 10000000)
  window-timing = (omega arith, omega arith)

  pub window-centre : Apart (8 * D + J) (kp + 1000) (km + (t + b) % 2000)
  window-centre = let n = window-cells in record { less = omega arith; more = omega arith }

  pub window-carried : Carried D J (halfway 1000 ((t + b) % 2000)) kp km
  window-carried =
      let c = window-centre in
      let h = halfway-twice 1000 ((t + b) % 2000) in
      record { low = omega (arith, h.1); high = omega (arith, h.0) }
