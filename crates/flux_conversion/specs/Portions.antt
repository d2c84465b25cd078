-- Section 18 of the specification, rules 18.8 to 18.14: the conversion of a file that came in portions. The main property is `WholeConversion`:
-- the new file does not depend on how the old one was cut. Assumes nothing.
use Rattle.std.specs.Prelude.{ℕ, ◌≤◌, ◌≡◌, cond, List, [], ltb, length, take}
use Rattle.cells.specs.CellsAndBytes.{bytes_for}
use Rattle.refusals.specs.RefusedCalls.{Answer, buffer_after}
use Rattle.refusals.specs.RefusedCalls.Answer.{gives, refused}
use Rattle.track_file.specs.Portions.{whole_of}
use Rattle.track_file.specs.TrackFile.{Content, file_with}
use Rattle.flux_reader.specs.declared.FluxReader.{FluxReader}
use Rattle.flux_file.specs.Portions.{reader_through, cells_through}
use Rattle.flux_conversion.specs.Conversion.{new_file, in_room, conversion}
use Rattle.flux_conversion.specs.Demand3.{ConversionDemand3}

-- 18.8, 18.14: what is answered at the end of a file that gives this, whose cells stand in this buffer, with `room` bytes for the new file. A
-- cell buffer that no file can have been read into is refused as at the start
unfoldable pub conversion_of : Answer Content → (cells : List ℕ) (room : ℕ) → Answer ℕ
conversion_of (gives content) cells room = cond (ltb (length cells) 16384) (refused 10 16384) (in_room room (gives content))
conversion_of (refused number value) cells room = refused number value

-- 18.12: the new file then: none where the file is refused
unfoldable pub new_file_of : Answer Content → (cells : List ℕ) → List ℕ
new_file_of (gives content) cells = file_with content.track content.side content.cells (take (bytes_for content.cells) cells)
new_file_of (refused number value) cells = []

-- 18.8, 18.14: the answer for a whole file that was read with a cell buffer of `cell_room` bytes, whose room goes first
unfoldable pub conversion_in : (cell_room room : ℕ) → List ℕ → Answer ℕ
conversion_in cell_room room file = cond (ltb cell_room 16384) (refused 10 16384) (conversion room file)

-- 18.11, 18.12, 18.13, 18.14: for every file and every way to cut it into portions: where `start` was called on a buffer and then `feed` on each
-- portion in turn, the answer and the new file are those of the whole file, and demand 3 holds of them where the cell buffer had room
pub record WholeConversion (reader : FluxReader) (cells : List ℕ) (answer : Answer ℕ) (before after : List ℕ) : Type 0 where
  pub whole : (buffer : List ℕ) (portions : List (List ℕ)) → reader ≡ reader_through buffer portions → cells ≡ cells_through buffer portions
      → (answer ≡ conversion_in (length buffer) (length before) (whole_of portions))
      × ((after ≡ buffer_after answer (new_file (whole_of portions)) before)
      × (16384 ≤ length buffer → ConversionDemand3 (whole_of portions) answer before after))
