-- Section 12 of the specification, rules 12.20 and 12.21: from a track block to cells. The timings of a revolution go to the separator's
-- call on a list. The main property: demand 3 (section 4) holds of the cells that come out (`BlockDemand3`). Assumes nothing.
use Rattle.std.specs.Prelude.{ℕ, ◌≡◌, true, false, List, ltb, length}
use Rattle.cells.specs.CellsAndBytes.{packed}
use Rattle.separation.specs.Separation.{cells_of, border_pulses_of, separation, border_pulses_after}
use Rattle.separation.specs.Demand3.{Demand3}
use Rattle.refusals.specs.RefusedCalls.{Answer, buffer_after}
use Rattle.supercard_pro.specs.TrackBlock.{revolution_timings, not_a_track_block, block_judged, block_answer}

-- 9.16, 12.20: refusals 16 and 17, and then the separator's own on the timings, 6 to 10; else the number of cells
abbrev pub block_separation : List ℕ → ℕ → ℕ → ℕ → Answer ℕ
block_separation block revolutions k room = block_judged block revolutions k (separation (revolution_timings block k) room)

-- 9.16, 12.20: the lent cell buffer afterwards: the cells packed at its front, and what follows kept; beside a refusal all of it is kept
abbrev pub block_cells : List ℕ → ℕ → ℕ → List ℕ → List ℕ
block_cells block revolutions k buffer =
    buffer_after (block_separation block revolutions k (length buffer)) (packed (cells_of (revolution_timings block k))) buffer

-- 3.17, 9.16, 9.38, 12.20: the lent number of border pulses afterwards: that of the revolution's timings, or, beside a refusal, the one that
-- was there. The buffer has `room` bytes
abbrev pub block_border_pulses : (block : List ℕ) (revolutions k room before : ℕ) → ℕ
block_border_pulses block revolutions k room before =
    border_pulses_after (block_separation block revolutions k room) (border_pulses_of (revolution_timings block k)) before

-- 3.17, 9.14, 9.38, 12.13: the lent number of border pulses after the call that gives the timings: that of these timings, stepped from the
-- residual 0, or, beside a refusal, the one that was there. The list has room for `room` timings
abbrev pub timings_border_pulses : (block : List ℕ) (revolutions k room before : ℕ) → ℕ
timings_border_pulses block revolutions k room before =
    border_pulses_after (block_answer block revolutions k room) (border_pulses_of (revolution_timings block k)) before

-- 12.21: demand 3 of a revolution of a track block: the call recovers the cells written, for all flux transitions and pulses within the
-- tolerance of which the revolution's timings are the distances. Where the first value runs from the index and not from a pulse it is no
-- such distance, and demand 3 says nothing; the cells are those of the separator's rule all the same
pub record BlockDemand3 (block : List ℕ) (revolutions k : ℕ) (answer : Answer ℕ) (before after : List ℕ) : Type 0 where
  pub recovers : not_a_track_block block revolutions ≡ false → ltb k revolutions ≡ true → Demand3 (revolution_timings block k) answer before after
