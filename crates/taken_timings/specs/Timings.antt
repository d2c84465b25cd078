-- Section 18 of the specification, rules 18.5 and 18.9: timings that come one by one: what each does to those taken so far and to the cell
-- buffer, and what they give in all. The main property: taken one after another they give what the separator's call on the list of them
-- gives (proofs/Taking and proofs/TimingCells). Assumes nothing.
use Rattle.std.specs.Prelude.{ℕ, ◌+◌, ◌-◌, cond, List, eqb, ltb, ℤ, pos, Result, Ok, Err}
use Rattle.cells.specs.CellsAndBytes.{with_one}
use Rattle.separator.specs.Rule.{step_answer, step_residual}
use Rattle.refusals.specs.RefusedCalls.{Answer}
use Rattle.refusals.specs.RefusedCalls.Answer.{gives, refused}
use Rattle.taken_timings.specs.declared.Taken.{Taken}

-- 3.2, 18.9: before the first timing: no timing, no cell, and a residual of 0
abbrev pub none_taken : Result Taken ℕ
none_taken = Ok (record { timings = 0; cells = 0; separator = record { residual = pos 0 } })

-- a count and more. A count that no file reaches stays
unfoldable pub count_after : ℕ → ℕ → ℕ
count_after count more = cond (ltb count 1000000000) (count + more) count

-- 3.4, 18.9: the cells of a timing put at cell `at`. Zeros stand there, so that only its one is put, as the last of its n cells; nothing
-- is where n is 0. From cell 131,072 on nothing is put
unfoldable pub timing_cells : ℕ → ℕ → List ℕ → List ℕ
timing_cells at n buffer =
    cond (eqb n 0) buffer (cond (ltb (count_after at (n - 1)) 131072) (with_one buffer (count_after at (n - 1))) buffer)

-- 18.5: the timings taken, after a step that answers so and leaves the residual r. The first one out of range is the last that is looked at:
-- its index is kept
unfoldable pub taken_step : (timings cells : ℕ) → Answer ℕ → (r : ℤ) → Result Taken ℕ
taken_step timings cells (gives n) r = Ok (record { timings = count_after timings 1; cells = count_after cells n; separator = record { residual = r } })
taken_step timings cells (refused number value) r = Err timings

-- 18.9: the timings taken, with one more, by the separator's step
unfoldable pub taken_after : Result Taken ℕ → ℕ → Result Taken ℕ
taken_after (Ok taken) t =
    taken_step taken.timings taken.cells (step_answer taken.separator.residual t) (step_residual taken.separator.residual t)
taken_after (Err index) t = Err index

-- 18.9: the buffer after that timing: its cells are put, and none of one that is out of range or follows such a one
unfoldable pub step_cells : ℕ → Answer ℕ → List ℕ → List ℕ
step_cells at (gives n) buffer = timing_cells at n buffer
step_cells at (refused number value) buffer = buffer

unfoldable pub taken_cells : Result Taken ℕ → ℕ → List ℕ → List ℕ
taken_cells (Ok taken) t buffer = step_cells taken.cells (step_answer taken.separator.residual t) buffer
taken_cells (Err index) t buffer = buffer

-- 8.8, 8.9, 18.5: what all timings give: 8 with the index, then 9 with the cells where they are above 131,072, and else the number of cells
unfoldable pub timings_answer : Result Taken ℕ → Answer ℕ
timings_answer (Ok taken) = cond (ltb 131072 taken.cells) (refused 9 taken.cells) (gives taken.cells)
timings_answer (Err index) = refused 8 index
