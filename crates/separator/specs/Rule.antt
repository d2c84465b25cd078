-- Section 3 of the specification: the separator's step, which takes one timing.
--
--   u = t + r          n = (u + half) / window, rounded down          e = u - window * n          the new r = e / 2, towards zero
--
-- The step is stated over half of the window: 1,000 ns for double density and 2,000 ns for single density. The main property: on a state by
-- value and on a lent one it gives the same answer, `step_answer_by`, with the same offset beside it, `step_offset_by`, and leaves the same
-- residual, `step_residual_by`. Assumes nothing.
use Rattle.std.specs.Prelude.{ℕ, ◌-◌, ◌*◌, ◌/◌, ◌≡◌, ◌⊎◌, Bool, cond, ◌&&◌, ◌||◌, ℤ, pos, neg_ℤ, ◌+ℤ◌, ◌-ℤ◌, nat_abs, Result, Ok, Err}
use Rattle.std.specs.Int.Signed.{le_z, quot_z, shr_z}
use Rattle.refusals.specs.RefusedCalls.{Answer, answer_by}
use Rattle.refusals.specs.RefusedCalls.Answer.{gives, refused}
use Rattle.flux_timings.specs.Timings.{in_range}
use Rattle.refusals.specs.declared.Refusal.{Refusal}
use Rattle.separator.specs.declared.Step.{Step}

-- 3.3: u, the timing and the residual together
unfoldable pub reading : ℤ → ℕ → ℤ
reading r t = pos t +ℤ r

-- 3.3: n, which is u and half a window, divided by the window and rounded down. It is never below 0, since r is at least minus a quarter of
-- the window and t at least 1
unfoldable pub cells_at : ℕ → ℤ → ℕ → ℕ
cells_at half r t = nat_abs (shr_z (reading r t +ℤ pos half) (2 * half))

-- 3.3: the offset e: how far u is beyond n windows, from -half up to half - 1
unfoldable pub offset_at : ℕ → ℤ → ℕ → ℤ
offset_at half r t = reading r t -ℤ pos (2 * half * cells_at half r t)

-- 3.3: half of an offset, rounded towards zero
unfoldable pub halved : ℤ → ℤ
halved e = quot_z e (pos 2)

-- 3.3: the new r
unfoldable pub residual_after : ℕ → ℤ → ℕ → ℤ
residual_after half r t = halved (offset_at half r t)

-- 3.3: half of the window of double density, in nanoseconds
abbrev pub double_half_window : ℕ
double_half_window = 1000

-- 3.19: half of the window of single density, in nanoseconds. Its window has 4,000
abbrev pub single_half_window : ℕ
single_half_window = 2000

-- half of the window of one of the two densities
abbrev pub IsHalfWindow : ℕ → Type 0
IsHalfWindow half = (half ≡ double_half_window) ⊎ (half ≡ single_half_window)

-- 3.6, 3.20: the least residual that a step leaves, and the most: -500 and 499 for double density, -1000 and 999 for single density
abbrev pub least_residual : ℕ → ℤ
least_residual half = neg_ℤ (pos (half / 2))

abbrev pub most_residual : ℕ → ℤ
most_residual half = pos ((half - 1) / 2)

-- 3.6, 3.20: the residual that a step uses: one that no step leaves counts as 0
unfoldable pub usable : ℕ → ℤ → ℤ
usable half r = cond (le_z (least_residual half) r && le_z r (most_residual half)) r (pos 0)

-- 3.7, 3.8, 3.9: what a step hands back, as an answer: n, or the refusal
abbrev pub taken_answer : Result Step Refusal → Answer ℕ
taken_answer step = answer_by (λ s. s.cells) step

-- 3.15: and the offset beside it: e, or 0 beside a refusal
abbrev pub offset_given : Result Step Refusal → ℤ
offset_given (Ok step) = step.offset
offset_given (Err refusal) = pos 0

-- 3.7, 3.8, 3.9, 3.22, 8.8, 9.5, 9.47: the answer of a step, by value and lent: n, or 8 with index 0 where the timing is out of range
unfoldable pub step_answer_by : ℕ → ℤ → ℕ → Answer ℕ
step_answer_by half r t = cond (in_range t) (gives (cells_at half (usable half r) t)) (refused 8 0)

-- 3.7, 3.8, 3.9, 3.22, 9.5, 9.36: the state after a step, by value and lent: the new residual, or, beside a refusal, the one that came
unfoldable pub step_residual_by : ℕ → ℤ → ℕ → ℤ
step_residual_by half r t = cond (in_range t) (residual_after half (usable half r) t) r

-- 3.15, 3.22, 9.5: the offset that a step gives beside n, by value and lent: e, or 0 beside a refusal, where nothing is stepped
unfoldable pub step_offset_by : ℕ → ℤ → ℕ → ℤ
step_offset_by half r t = cond (in_range t) (offset_at half (usable half r) t) (pos 0)

-- 3.16, 3.21: from this offset on, and from its opposite down, a pulse is a border pulse: 902 for double density, and 1804 for single
-- density, where the window is twice as wide
abbrev pub border_limit : ℕ → ℕ
border_limit half = 902 * half / 1000

-- 3.16, 3.21: whether a pulse with the offset e is a border pulse
unfoldable pub is_border_by : ℕ → ℤ → Bool
is_border_by half e = le_z e (neg_ℤ (pos (border_limit half))) || le_z (pos (border_limit half)) e

-- 3.16, 3.21: how many border pulses such a pulse is: 1 or 0
unfoldable pub border_pulses_at_by : ℕ → ℤ → ℕ
border_pulses_at_by half e = cond (is_border_by half e) 1 0

-- 3.3, 3.7, 3.8, 3.15: the step of double density: what it answers, leaves and gives beside n
abbrev pub step_answer : ℤ → ℕ → Answer ℕ
step_answer r t = step_answer_by double_half_window r t

abbrev pub step_residual : ℤ → ℕ → ℤ
step_residual r t = step_residual_by double_half_window r t

abbrev pub step_offset : ℤ → ℕ → ℤ
step_offset r t = step_offset_by double_half_window r t
