-- Section 10 of the specification, rules 10.11 to 10.15: the track file in portions: from the start, portion after portion, to the end. The
-- main properties: however a file is cut, it gives what TrackFile says of the whole (`WholeFile`), and reading stops exactly where a refusal
-- is given at once (`AtOnce`). Assumes nothing.
use Rattle.std.specs.Prelude.{ℕ, ◌≡◌, Bool, true, false, cond, ◌||◌, List, [], ◌∷◌, ◌++◌, ltb, length, replicate, Result}
use Rattle.refusals.specs.RefusedCalls.{Answer, refused_with, answer_by}
use Rattle.refusals.specs.RefusedCalls.Answer.{gives, refused}
use Rattle.refusals.specs.declared.Refusal.{Refusal}
use Rattle.refusals.specs.declared.Refusal.TheVariants.{NoRoom}
use Rattle.file_reader.specs.Bytes.{reader_after_byte, cells_after_byte}
use Rattle.file_reader.specs.declared.Number.TheVariants.{Empty}
use Rattle.file_reader.specs.declared.Reader.{Reader}
use Rattle.file_reader.specs.declared.Reader.TheVariants.{PlaceCount, Track, Side, CellCount, PackedCells, FluxCount, AllCells, NotATrackFile, Stopped}
use Rattle.track_file.specs.TrackFile.{Content, refused_at_once, file_answer_in, file_buffer}
use Rattle.track_file.specs.declared.FileCells.{FileCells}

-- 10.11: the beginning. A cell buffer of less than 16,384 bytes is refused
unfoldable pub start_of : ℕ → Reader
start_of room = cond (ltb room 16384) (Stopped (NoRoom 16384)) (PlaceCount Empty)

-- 10.11: all of the buffer is set to 0; one that is refused is not written
unfoldable pub start_cells : List ℕ → List ℕ
start_cells buffer = cond (ltb (length buffer) 16384) buffer (replicate (length buffer) 0)

-- 10.12: a portion, byte by byte: the reader and the buffer after it
unfoldable pub reader_after : Reader → List ℕ → Reader
reader_after reader [] = reader
reader_after reader (byte ∷ bytes) = reader_after (reader_after_byte reader byte) bytes

unfoldable pub cells_after : Reader → List ℕ → List ℕ → List ℕ
cells_after reader [] buffer = buffer
cells_after reader (byte ∷ bytes) buffer = cells_after (reader_after_byte reader byte) bytes (cells_after_byte reader byte buffer)

-- 10.12: portions, one after another
unfoldable pub reader_after_all : Reader → List (List ℕ) → Reader
reader_after_all reader [] = reader
reader_after_all reader (portion ∷ portions) = reader_after_all (reader_after reader portion) portions

unfoldable pub cells_after_all : Reader → List (List ℕ) → List ℕ → List ℕ
cells_after_all reader [] buffer = buffer
cells_after_all reader (portion ∷ portions) buffer = cells_after_all (reader_after reader portion) portions (cells_after reader portion buffer)

-- 10.11, 10.12: what `start` on this buffer and then `feed` on each of the portions leave: the reader and the buffer
abbrev pub reader_through : List ℕ → List (List ℕ) → Reader
reader_through buffer portions = reader_after_all (start_of (length buffer)) portions

abbrev pub cells_through : List ℕ → List (List ℕ) → List ℕ
cells_through buffer portions = cells_after_all (start_of (length buffer)) portions (start_cells buffer)

-- 10.15: the file that portions make up
unfoldable pub whole_of : List (List ℕ) → List ℕ
whole_of [] = []
whole_of (portion ∷ portions) = portion ++ whole_of portions

-- 10.13: the reader is stopped: a refusal is given at once, or the buffer is refused. What is no track file for another reason is refused
-- at its end, though the reader may know it before
unfoldable pub is_stopped : Reader → Bool
is_stopped (PlaceCount number) = false
is_stopped Track = false
is_stopped (Side track) = false
is_stopped (CellCount place number) = false
is_stopped (PackedCells place count at) = false
is_stopped (FluxCount place cell_count number) = false
is_stopped (AllCells place count) = false
is_stopped NotATrackFile = false
is_stopped (Stopped refusal) = true

-- an answer, with a refusal as its number and the value beside it
abbrev pub read_answer : Result FileCells Refusal → Answer Content
read_answer read = answer_by (λ (file : FileCells). record { track = file.track; side = file.side; cells = file.count }) read

-- 9.10, 10.7, 10.14: what the end of the file brings. Where a section is not whole, bytes are missing
unfoldable pub finish_answer : Reader → Answer Content
finish_answer (PlaceCount number) = refused 15 0
finish_answer Track = refused 15 0
finish_answer (Side track) = refused 15 0
finish_answer (CellCount place number) = refused 15 0
finish_answer (PackedCells place count at) = refused 15 0
finish_answer (FluxCount place cell_count number) = refused 15 0
finish_answer (AllCells place count) = gives (record { track = place.track; side = place.side; cells = count })
finish_answer NotATrackFile = refused 15 0
finish_answer (Stopped refusal) = refused_with refusal

-- 10.14, 10.15: for every file and every way to cut it into portions: where `start` was called on a buffer and then `feed` on each portion
-- in turn, the answer of `finish` is that of the whole file. Where it is accepted, what they left in the buffer are the file's cells and
-- zeros
pub record WholeFile (reader : Reader) (answer : Answer Content) : Type 0 where
  pub whole : (buffer : List ℕ) (portions : List (List ℕ)) → reader ≡ reader_through buffer portions
      → (answer ≡ file_answer_in (length buffer) (whole_of portions))
      × ((content : Content) → answer ≡ gives content → cells_through buffer portions ≡ file_buffer (length buffer) (whole_of portions))

-- 10.6, 10.13: what `stopped` answers, where `start` was called on a buffer and then `feed` on each portion in turn: whether the bytes so
-- far are refused at once, or the buffer is. Where it answers yes, the file gives the same whatever comes after
pub record AtOnce (reader : Reader) (stopped : Bool) : Type 0 where
  pub exactly : (buffer : List ℕ) (portions : List (List ℕ)) → reader ≡ reader_through buffer portions
      → stopped ≡ (ltb (length buffer) 16384 || refused_at_once (whole_of portions))
  pub settled : stopped ≡ true → (buffer : List ℕ) (portions : List (List ℕ)) → reader ≡ reader_through buffer portions → (rest : List ℕ)
      → file_answer_in (length buffer) (whole_of portions ++ rest) ≡ file_answer_in (length buffer) (whole_of portions)
