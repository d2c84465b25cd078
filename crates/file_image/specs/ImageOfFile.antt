-- Section 13 of the specification, rules 13.31 and 13.32: the plain image of the track of a whole track file. The main property is
-- `WholeImage`: the image does not depend on how the file was cut into portions. Assumes nothing.
use Rattle.std.specs.Prelude.{ℕ, ◌≡◌, List, [], length}
use Rattle.cells.specs.CellsAndBytes.{cell}
use Rattle.layouts.specs.Layouts.{double_density}
use Rattle.refusals.specs.RefusedCalls.{Answer, buffer_after}
use Rattle.refusals.specs.RefusedCalls.Answer.{gives, refused}
use Rattle.sector_records.specs.Sectors.{sectors_of}
use Rattle.sector_image.specs.Image.{image_of, image_answer}
use Rattle.track_file.specs.Portions.{reader_through, cells_through, whole_of}
use Rattle.track_file.specs.TrackFile.{Content, file_answer_in, file_buffer}
use Rattle.file_reader.specs.declared.Reader.{Reader}

-- 13.32: what is answered of a file that gives this, with these packed cells and `room` bytes for the image: the refusal where the file is
-- refused, and else what the call on the track with its cells, T and H answers
unfoldable pub image_given : Answer Content → (cells : List ℕ) (room : ℕ) → Answer ℕ
image_given (gives content) cells room = image_answer cells content.cells content.track content.side room
image_given (refused number value) cells room = refused number value

-- 13.31: the bytes of that image: none where the file is refused
unfoldable pub image_bytes : Answer Content → (cells : List ℕ) → List ℕ
image_bytes (gives content) cells = image_of (cell cells content.cells) (sectors_of double_density cells content.cells)
image_bytes (refused number value) cells = []

-- 13.31, 13.32: the answer and the image of a file that is read with a cell buffer of `cell_room` bytes
unfoldable pub file_image_answer : (cell_room room : ℕ) → List ℕ → Answer ℕ
file_image_answer cell_room room file = image_given (file_answer_in cell_room file) (file_buffer cell_room file) room

unfoldable pub file_image : (cell_room : ℕ) → List ℕ → List ℕ
file_image cell_room file = image_bytes (file_answer_in cell_room file) (file_buffer cell_room file)

-- 10.15, 13.31: for every file and every way to cut it into portions: where `start` was called on a buffer and then `feed` on each portion
-- in turn, the answer and the image are those of the whole file
pub record WholeImage (reader : Reader) (cells : List ℕ) (answer : Answer ℕ) (before after : List ℕ) : Type 0 where
  pub whole : (buffer : List ℕ) (portions : List (List ℕ)) → reader ≡ reader_through buffer portions → cells ≡ cells_through buffer portions
      → (answer ≡ file_image_answer (length buffer) (length before) (whole_of portions))
      × (after ≡ buffer_after answer (file_image (length buffer) (whole_of portions)) before)
