-- What the code of a step makes of a timing in range, from a residual that a step left: the part of the reading that is less than two
-- windows is tested against half of one. Assumes nothing.
use Prim.Native.Nat.{ℕ, ◌+◌, ◌*◌, ◌/◌, ◌%◌, ◌≤◌}
use mathlib.Core.Path.{◌≡◌, refl, sym, ◌∙◌, ap, subst}
use mathlib.Core.Bool.{true, false}
use mathlib.Core.Logic.{⊎_elim}
use native.Mathlib.Nat.{add-zero}
use native.Mathlib.Omega.{arith}
use lib.IntN.{ℤ, pos, ◌+ℤ◌, ◌-ℤ◌}
use lib.Signed.{lt_z}
use mir.Syntax.{w32}
use mir.Val.{SFits, to_z}
use mir.Facts.{to_z-of_z}
use Rattle.refusals.specs.RefusedCalls.Answer.{gives, refused}
use Rattle.flux_timings.specs.Timings.{in_range}
use Rattle.flux_timings.proofs.Timing.{range-of}
use Rattle.separator.specs.Rule.{IsHalfWindow, usable, cells_at, offset_at, halved, step_answer_by, step_offset_by, step_residual_by}
use Rattle.separator.specs.declared.Step.{Step}
use Rattle.separator.proofs.LastWindow.{none_below, one-past, below_half, past-half, offset-below, offset-past, window-less}
use Rattle.separator.proofs.Lifted.{Kept}
use Rattle.separator.proofs.MachineStep.{Steppable, read_back, small_is, part, part-fits, part-is, part_small, n-is, e-is}
use Rattle.separator.proofs.Residual.{usable-kept, kept-few}
use Rattle.separator.proofs.Stepping.{step-refused, step-taken}

-- half of a window is from 1,000 to 2,000 ns
pub half-low : {half : ℕ} → IsHalfWindow half → 1000 ≤ half
half-low is = ⊎_elim (λ e. omega (arith, e)) (λ e. omega (arith, e)) is

pub half_high : {half : ℕ} → IsHalfWindow half → half ≤ 2000
half_high is = ⊎_elim (λ e. omega (arith, e)) (λ e. omega (arith, e)) is

-- a step that gives this, as the rule has it
pub record Stepped (half : ℕ) (r : ℤ) (t : ℕ) (step : Step) : Type 0 where
  pub answer : gives step.cells ≡ step_answer_by half r t
  pub offset : step.offset ≡ step_offset_by half r t
  pub state : halved step.offset ≡ step_residual_by half r t

-- a residual that no step left is above 999, or the timing is out of range: what a refusal promises
pub record Kept-as-is (half : ℕ) (r : ℤ) (t : ℕ) : Type 0 where
  pub answer : refused 8 0 ≡ step_answer_by half r t
  pub offset : pos 0 ≡ step_offset_by half r t
  pub state : r ≡ step_residual_by half r t

module _ {half : ℕ} {r : ℤ} {t : ℕ} where
  pub out-of-range : in_range t ≡ false → Kept-as-is half r t
  out-of-range e = let s = step-refused half r t e in record { answer = s.0; offset = s.1.0; state = s.1.1 }

  pub too-much : IsHalfWindow half → SFits w32 r → usable half r ≡ r → lt_z (pos 999) (read_back r) ≡ true → Kept-as-is half r t
  too-much is-half fits is e =
      let held : read_back r ≡ r = to_z-of_z fits in
      let low = half-low is-half in
      let kept : Kept half r = subst (Kept half) is (usable-kept half r (omega arith)) in
      absurd (kept-few half r (half_high is-half) kept (rw held at e))

-- half of the window and the whole of it, as the machine reads them
half-is : {half : ℕ} → IsHalfWindow half → to_z w32 half ≡ pos half
half-is {half} is = let high = half_high is in small_is half (omega arith)

window_is : {half : ℕ} → IsHalfWindow half → to_z w32 (2 * half) ≡ pos (2 * half)
window_is {half} is = let high = half_high is in small_is (2 * half) (omega arith)

-- the reading without the timing's whole windows
abbrev pub reading : ℕ → ℕ → ℤ → ℤ
reading half t r = read_back (to_z w32 (t % (2 * half)) +ℤ read_back r)

module _ (half t : ℕ) (r : ℤ) (is-half : IsHalfWindow half) (ranged : in_range t ≡ true) (is : usable half r ≡ r) where
  s : Steppable half t r
  s =
      let low = half-low is-half in
      record {
        low = low;
        high = half_high is-half;
        short = (range-of t ranged).1;
        kept = subst (Kept half) is (usable-kept half r (omega arith));
      }

  fits : SFits w32 (reading half t r)
  fits = let same : reading half t r ≡ part s = to_z-of_z (part-fits s) in rw same (part-fits s)

  made : {n : ℕ} {o : ℤ} {step : Step} → n ≡ cells_at half r t → o ≡ offset_at half r t → step ≡ record { cells = n; offset = o } → Stepped half r t step
  made cells offset e =
      let m = step-taken half r t ranged (sym is) cells offset refl in
      rw e (record { answer = m.0; offset = m.1.0; state = m.1.1 })

  pub below-half : lt_z (reading half t r) (to_z w32 half) ≡ true
      → {step : Step} → step ≡ record { cells = t / (2 * half); offset = reading half t r } → Stepped half r t step
  below-half e =
      let l = below_half half (t % (2 * half) + s.kept.lifted) (part-is s) (rw (half-is is-half) at e) in
      made (sym (add-zero (t / (2 * half))) ∙ ap (λ (k : ℕ). t / (2 * half) + k) (none_below half _ l) ∙ n-is s) (offset-below half _ (part-is s) l ∙ e-is s)

  pub from-half : lt_z (reading half t r) (to_z w32 half) ≡ false
      → {step : Step} → step ≡ record { cells = t / (2 * half) + 1; offset = read_back (reading half t r -ℤ to_z w32 (2 * half)) } → Stepped half r t step
  from-half e =
      let below = rw (half-is is-half) at e in
      let l = past-half half (t % (2 * half) + s.kept.lifted) (part-is s) below in
      let less : SFits w32 (reading half t r -ℤ to_z w32 (2 * half)) = rw (window_is is-half) (window-less half (half_high is-half) (reading half t r) fits below) in
      let back : read_back (reading half t r -ℤ to_z w32 (2 * half)) ≡ reading half t r -ℤ to_z w32 (2 * half) = to_z-of_z less in
      made (ap (λ (k : ℕ). t / (2 * half) + k) (one-past half _ l (part_small s)) ∙ n-is s)
      (back ∙ ap (λ (z : ℤ). reading half t r -ℤ z) (window_is is-half) ∙ offset-past half _ (part-is s) l (part_small s) ∙ e-is s)
