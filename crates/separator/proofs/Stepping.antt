-- What a step gives, for a timing out of range and for one in range. Assumes nothing.
use Prim.Native.Nat.{ℕ}
use mathlib.Core.Path.{◌≡◌}
use mathlib.Core.Bool.{true, false}
use lib.IntN.{ℤ, pos}
use Rattle.refusals.specs.RefusedCalls.Answer.{gives, refused}
use Rattle.flux_timings.specs.Timings.{in_range}
use Rattle.separator.specs.Rule.{usable, cells_at, offset_at, halved, residual_after, step_answer_by, step_offset_by, step_residual_by}
use Rattle.separator.proofs.Lifted.{Kept}
use Rattle.separator.proofs.Residual.{kept-usable}

module _ (half : ℕ) (r : ℤ) (t : ℕ) where
  pub step-refused : in_range t ≡ false → (refused 8 0 ≡ step_answer_by half r t) × ((pos 0 ≡ step_offset_by half r t) × (r ≡ step_residual_by half r t))
  unfolding step_answer_by step_offset_by step_residual_by
  step-refused e = (rw e, (rw e, rw e))

  -- u is the residual that is used, and n, o and q what is made of it
  pub step-taken : {u : ℤ} {n : ℕ} {o q : ℤ} → in_range t ≡ true → u ≡ usable half r → n ≡ cells_at half u t → o ≡ offset_at half u t → q ≡ halved o
      → (gives n ≡ step_answer_by half r t) × ((o ≡ step_offset_by half r t) × (q ≡ step_residual_by half r t))
  unfolding step_answer_by step_offset_by step_residual_by residual_after
  step-taken e h n o q = (rw (e, n, h), (rw (e, o, h), rw (e, q, o, h)))

  -- a residual that is used as it is steps as the one of which it was made
  pub step-again : {u : ℤ} → in_range t ≡ true → u ≡ usable half r → usable half u ≡ u
      → (step_answer_by half u t ≡ step_answer_by half r t) × ((step_offset_by half u t ≡ step_offset_by half r t) × (step_residual_by half u t ≡ step_residual_by half r t))
  unfolding step_answer_by step_offset_by step_residual_by
  step-again e h k = (rw (e, k, h), (rw (e, k, h), rw (e, k, h)))

-- in range, from a residual that a step left
module _ (half : ℕ) (r : ℤ) (t : ℕ) (kept : Kept half r) (e : in_range t ≡ true) where
  pub step-answers : step_answer_by half r t ≡ gives (cells_at half r t)
  unfolding step_answer_by
  step-answers = rw (e, kept-usable half r kept)

  pub step-leaves : step_residual_by half r t ≡ residual_after half r t
  unfolding step_residual_by
  step-leaves = rw (e, kept-usable half r kept)

  pub step-offsets : step_offset_by half r t ≡ offset_at half r t
  unfolding step_offset_by
  step-offsets = rw (e, kept-usable half r kept)
