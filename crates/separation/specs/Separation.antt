-- Section 3 of the specification, rules 3.10 to 3.12, 3.17, 3.22 and 3.23, and rule 9.6: the separator's call on a whole list of timings, with its
-- refusals 6 to 10, over half of the window. The main property is demand 3: Demand3 states what the call recovers for double density.
-- Assumes nothing.
use Rattle.std.specs.Prelude.{ℕ, zero, suc, ◌+◌, cond, List, [], ◌∷◌, ◌++◌, ltb, ℤ, pos, length, replicate}
use Rattle.cells.specs.CellsAndBytes.{bytes_for, packed}
use Rattle.refusals.specs.RefusedCalls.{Answer, buffer_after}
use Rattle.refusals.specs.RefusedCalls.Answer.{gives, refused}
use Rattle.separator.specs.Rule.{cells_at, offset_at, residual_after, double_half_window, border_pulses_at_by}
use Rattle.flux_timings.specs.Timings.{timings_judged}

-- 3.4: n cells: zeros, and a one as the last of them. Where n is 0 there are none
unfoldable pub cells_for : ℕ → List ℕ
cells_for zero = []
cells_for (suc k) = replicate k 0 ++ (1 ∷ [])

-- 3.5: what a step makes of a timing: n, and e, by which the window's centre lies before the pulse that ends the timing
pub record Window : Type 0 where
  pub cells : ℕ
  pub offset : ℤ

-- 3.10: timings stepped in order from the residual r on, each from the residual that the one before left
unfoldable pub windows_from : ℕ → ℤ → List ℕ → List Window
windows_from half r [] = []
windows_from half r (t ∷ ts) = record { cells = cells_at half r t; offset = offset_at half r t } ∷ windows_from half (residual_after half r t) ts

-- 3.2, 3.10, 3.22: the steps of a whole list, from the residual 0
abbrev pub windows_of_by : ℕ → List ℕ → List Window
windows_of_by half ts = windows_from half (pos 0) ts

-- 3.10: the cells of all steps, joined in their order
unfoldable pub cells_in : List Window → List ℕ
cells_in [] = []
cells_in (w ∷ ws) = cells_for w.cells ++ cells_in ws

-- 3.10, 3.22: the cells of a list of timings
abbrev pub cells_of_by : ℕ → List ℕ → List ℕ
cells_of_by half ts = cells_in (windows_of_by half ts)

-- 3.17: the number of border pulses among all steps
unfoldable pub border_pulses_in : ℕ → List Window → ℕ
border_pulses_in half [] = 0
border_pulses_in half (w ∷ ws) = border_pulses_at_by half w.offset + border_pulses_in half ws

-- 3.17, 3.22: the number of border pulses of a list of timings
abbrev pub border_pulses_of_by : ℕ → List ℕ → ℕ
border_pulses_of_by half ts = border_pulses_in half (windows_of_by half ts)

-- 3.12, 8.9, 8.10: n cells and a buffer of `room` bytes are judged. More than 131,072 cells are refused with 9, with n beside it; then a
-- buffer that is too short with 10, with the bytes that the cells need beside it. Else n is given, also where it is 0
unfoldable pub cells_judged : ℕ → ℕ → Answer ℕ
cells_judged n room = cond (ltb 131072 n) (refused 9 n) (cond (ltb room (bytes_for n)) (refused 10 (bytes_for n)) (gives n))

-- 3.22, 9.6, 9.21, 9.48: the call's answer. The timings are judged by 6, 7 and 8, and then all cells are counted and judged by 9 and 10
abbrev pub separation_by : ℕ → List ℕ → ℕ → Answer ℕ
separation_by half ts room = timings_judged ts (cells_judged (length (cells_of_by half ts)) room)

-- 3.11, 3.22, 8.31, 9.6: the lent buffer afterwards: the cells packed at its front, the spare bits of the last byte that is written 0, and
-- the bytes after it as they were
abbrev pub separated_cells_by : ℕ → List ℕ → List ℕ → List ℕ
separated_cells_by half ts buffer = buffer_after (separation_by half ts (length buffer)) (packed (cells_of_by half ts)) buffer

-- 3.17, 8.31, 9.6, 9.38: the lent number of border pulses afterwards: that of all timings, or, beside a refusal, the one that was there
unfoldable pub border_pulses_after : Answer ℕ → ℕ → ℕ → ℕ
border_pulses_after (gives cells) pulses before = pulses
border_pulses_after (refused number value) pulses before = before

-- 3.10, 3.11, 3.17, 4.10, 9.6: the same for double density
abbrev pub windows_of : List ℕ → List Window
windows_of ts = windows_of_by double_half_window ts

abbrev pub cells_of : List ℕ → List ℕ
cells_of ts = cells_of_by double_half_window ts

abbrev pub border_pulses_of : List ℕ → ℕ
border_pulses_of ts = border_pulses_of_by double_half_window ts

abbrev pub separation : List ℕ → ℕ → Answer ℕ
separation ts room = separation_by double_half_window ts room

abbrev pub separated_cells : List ℕ → List ℕ → List ℕ
separated_cells ts buffer = separated_cells_by double_half_window ts buffer

-- 3.23: what counting the border pulses of a list answers: the timings are judged by 6, 7 and 8, and no cells are
abbrev pub border_pulses_counted : List ℕ → Answer ℕ
border_pulses_counted ts = timings_judged ts (gives (border_pulses_of ts))
