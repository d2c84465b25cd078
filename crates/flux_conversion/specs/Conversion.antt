-- Section 18 of the specification, rules 18.12 and 18.14, and rule 9.64: the new track file of an old flux file, and the call that makes it. The
-- main property: the file is judged before the room, and beside a refusal nothing is written. Assumes nothing.
use Rattle.std.specs.Prelude.{ℕ, ◌+◌, cond, List, ltb, length}
use Rattle.cells.specs.CellsAndBytes.{bytes_for}
use Rattle.refusals.specs.RefusedCalls.{Answer, buffer_after}
use Rattle.refusals.specs.RefusedCalls.Answer.{gives, refused}
use Rattle.separation.specs.Separation.{cells_of}
use Rattle.track_file.specs.TrackFile.{Content, track_of, side_of, file_with}
use Rattle.flux_file.specs.FluxFile.{timings, flux_answer, flux_cells}

-- 18.12: the new file of an old one that is accepted: the same place, and the cells that the separator makes of all timings
unfoldable pub new_file : List ℕ → List ℕ
new_file file = file_with (track_of file) (side_of file) (length (cells_of (timings file))) (flux_cells file)

-- 10.7, 18.12: how many bytes a new file of so many cells has
abbrev pub new_length : ℕ → ℕ
new_length cells = 14 + bytes_for cells

-- 8.10, 18.14: what is answered of a file that gives this, where the new file goes to `room` bytes: its length, or 10 with the bytes that it
-- needs
unfoldable pub in_room : ℕ → Answer Content → Answer ℕ
in_room room (gives content) = cond (ltb room (new_length content.cells)) (refused 10 (new_length content.cells)) (gives (new_length content.cells))
in_room room (refused number value) = refused number value

-- 9.64, 18.14: the answer of the conversion: the old file is judged first, and then the room
abbrev pub conversion : ℕ → List ℕ → Answer ℕ
conversion room file = in_room room (flux_answer file)

-- 8.31, 9.64, 18.14: the lent buffer afterwards: the new file at its front, and what follows kept; beside a refusal all of it is kept
abbrev pub converted : List ℕ → List ℕ → List ℕ
converted file out = buffer_after (conversion (length out) file) (new_file file) out
