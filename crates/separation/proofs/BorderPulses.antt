-- Border pulses, counted timing by timing. Assumes nothing.
use Prim.Native.Nat.{ℕ, ◌+◌, ◌≤◌}
use mathlib.Core.Path.{◌≡◌, ap}
use mathlib.Core.List.{List, [], ◌∷◌}
use native.Mathlib.Omega.{arith}
use lib.IntN.{ℤ, pos}
use lib.ListN.{length, get_or, drop, drop_of_length-le}
use Rattle.flux_timings.proofs.FirstOut.{rest-is}
use Rattle.separator.specs.Rule.{residual_after, double_half_window, step_offset_by, border_pulses_at_by, offset_at}
use Rattle.separator.proofs.Border.{border-few}
use Rattle.separator.proofs.Lifted.{Kept}
use Rattle.separator.proofs.Stepping.{step-offsets}
use Rattle.separation.specs.Separation.{windows_from, border_pulses_in, border_pulses_of_by}
use Rattle.separation.proofs.Walk.{Turn}

-- those of the timings ts from the residual r on
abbrev pub border_pulses_from_by : ℕ → ℤ → List ℕ → ℕ
border_pulses_from_by half r ts = border_pulses_in half (windows_from half r ts)

abbrev pub border_pulses_from : ℤ → List ℕ → ℕ
border_pulses_from r ts = border_pulses_from_by double_half_window r ts

-- a pulse is one at most
pub one_at_most : (half : ℕ) (e : ℤ) {k : ℕ} → k ≡ border_pulses_at_by half e → k ≤ 1
one_at_most half e is = omega (arith, border-few half e)

-- i timings of ts passed, with so many border pulses, and the residual r that is left
pub record Passed (half : ℕ) (ts : List ℕ) (pulses : ℕ) (r : ℤ) (i : ℕ) : Type 0 where
  pub few : pulses ≤ i
  pub rest : pulses + border_pulses_from_by half r (drop i ts) ≡ border_pulses_of_by half ts

pub none_passed : {half : ℕ} (ts : List ℕ) {r : ℤ} → r ≡ pos 0 → Passed half ts 0 r 0
none_passed {half} ts e = record { few = omega arith; rest = omega (arith, ap (λ (z : ℤ). border_pulses_from_by half z ts) e) }

-- one timing more, which has the offset e
module _ {half : ℕ} {ts : List ℕ} {pulses : ℕ} {r : ℤ} {i : ℕ} (p : Passed half ts pulses r i) (kept : Kept half r) {n : ℕ} {r' e : ℤ} {k : ℕ} (t : Turn half ts i r n r')
    (offset : e ≡ step_offset_by half r (get_or ts i 0)) (counts : k ≡ border_pulses_at_by half e) where
  later : border_pulses_from_by half r (drop i ts) ≡ k + border_pulses_from_by half r' (drop (i + 1) ts)
  unfolding windows_from border_pulses_in
  later = rw (rest-is ts i t.here, t.residual, counts, offset, step-offsets half r (get_or ts i 0) kept t.ranged)

  pub one-passed : Passed half ts (pulses + k) r' (i + 1)
  one-passed = record { few = omega (arith, p.few, one_at_most half e counts); rest = omega (arith, p.rest, later) }

-- all timings passed
none_left : (half : ℕ) (ts : List ℕ) (r : ℤ) (i : ℕ) → length ts ≤ i → border_pulses_from_by half r (drop i ts) ≡ 0
unfolding windows_from border_pulses_in
none_left half ts r i h = rw (drop_of_length-le ts h)

pub all-passed : {half : ℕ} {ts : List ℕ} {pulses : ℕ} {r : ℤ} {i : ℕ} → Passed half ts pulses r i → length ts ≤ i → pulses ≡ border_pulses_of_by half ts
all-passed {half} {ts} {pulses} {r} {i} p h = omega (arith, p.rest, none_left half ts r i h)

-- there are no more of them than timings
pub border-pulses-few : (half : ℕ) (ts : List ℕ) (r : ℤ) → border_pulses_from_by half r ts ≤ length ts
unfolding windows_from border_pulses_in
border-pulses-few half [] r = omega arith
border-pulses-few half (t ∷ ts) r = omega (arith, border-few half (offset_at half r t), border-pulses-few half ts (residual_after half r t))
