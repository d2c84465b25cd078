-- Section 18 of the specification, rules 18.8 to 18.11: the old flux file in portions: from the start, portion after portion, to the end. The
-- main properties: however a file is cut, it gives what FluxFile says of the whole (`WholeFluxFile`), and reading stops exactly where a refusal
-- is given at once (`AtOnce`). The buffer at the start is that of a track file. Assumes nothing.
use Rattle.std.specs.Prelude.{ℕ, ◌≡◌, Bool, true, false, cond, ◌||◌, List, [], ◌∷◌, ◌++◌, ltb, length}
use Rattle.refusals.specs.RefusedCalls.{Answer, refused_with}
use Rattle.refusals.specs.RefusedCalls.Answer.{gives, refused}
use Rattle.refusals.specs.declared.Refusal.TheVariants.{NoRoom}
use Rattle.taken_timings.specs.Timings.{timings_answer}
use Rattle.file_reader.specs.declared.Number.TheVariants.{Empty}
use Rattle.track_file.specs.Portions.{start_cells, whole_of}
use Rattle.track_file.specs.TrackFile.{Content}
use Rattle.flux_reader.specs.Bytes.{reader_after_byte, cells_after_byte}
use Rattle.flux_reader.specs.declared.FluxReader.{FluxReader}
use Rattle.flux_reader.specs.declared.FluxReader.TheVariants.{PlaceCount, Track, Side, CellCount, FluxCount, Timings, AllTimings, NotATrackFile, Stopped}
use Rattle.flux_file.specs.FluxFile.{some_cells, placed, refused_at_once, flux_answer_in, flux_buffer}

-- 18.8: the beginning. A cell buffer of less than 16,384 bytes is refused
unfoldable pub start_of : ℕ → FluxReader
start_of room = cond (ltb room 16384) (Stopped (NoRoom 16384)) (PlaceCount Empty)

-- 18.9: a portion, byte by byte: the reader and the buffer after it
unfoldable pub reader_after : FluxReader → List ℕ → FluxReader
reader_after reader [] = reader
reader_after reader (byte ∷ bytes) = reader_after (reader_after_byte reader byte) bytes

unfoldable pub cells_after : FluxReader → List ℕ → List ℕ → List ℕ
cells_after reader [] buffer = buffer
cells_after reader (byte ∷ bytes) buffer = cells_after (reader_after_byte reader byte) bytes (cells_after_byte reader byte buffer)

-- 18.9: portions, one after another
unfoldable pub reader_after_all : FluxReader → List (List ℕ) → FluxReader
reader_after_all reader [] = reader
reader_after_all reader (portion ∷ portions) = reader_after_all (reader_after reader portion) portions

unfoldable pub cells_after_all : FluxReader → List (List ℕ) → List ℕ → List ℕ
cells_after_all reader [] buffer = buffer
cells_after_all reader (portion ∷ portions) buffer = cells_after_all (reader_after reader portion) portions (cells_after reader portion buffer)

-- 18.8, 18.9: what `start` on this buffer and then `feed` on each of the portions leave: the reader and the buffer
abbrev pub reader_through : List ℕ → List (List ℕ) → FluxReader
reader_through buffer portions = reader_after_all (start_of (length buffer)) portions

abbrev pub cells_through : List ℕ → List (List ℕ) → List ℕ
cells_through buffer portions = cells_after_all (start_of (length buffer)) portions (start_cells buffer)

-- 18.10: the reader is stopped: a refusal is given at once, or the buffer is refused. What is no flux file for another reason is refused at its
-- end, though the reader may know it before
unfoldable pub is_stopped : FluxReader → Bool
is_stopped (PlaceCount number) = false
is_stopped Track = false
is_stopped (Side track) = false
is_stopped (CellCount place number) = false
is_stopped (FluxCount place number) = false
is_stopped (Timings place left number taken) = false
is_stopped (AllTimings place taken) = false
is_stopped NotATrackFile = false
is_stopped (Stopped refusal) = true

-- 18.4 to 18.7, 18.10: what the end of the file brings. Where a section is not whole, bytes are missing
unfoldable pub finish_answer : FluxReader → Answer Content
finish_answer (PlaceCount number) = refused 15 0
finish_answer Track = refused 15 0
finish_answer (Side track) = refused 15 0
finish_answer (CellCount place number) = refused 15 0
finish_answer (FluxCount place number) = refused 15 0
finish_answer (Timings place left number taken) = refused 15 0
finish_answer (AllTimings place taken) = placed place.track place.side (some_cells (timings_answer taken))
finish_answer NotATrackFile = refused 15 0
finish_answer (Stopped refusal) = refused_with refusal

-- 18.10, 18.11: for every file and every way to cut it into portions: where `start` was called on a buffer and then `feed` on each portion
-- in turn, the answer of `finish` is that of the whole file. Where it is accepted, what they left in the buffer are the file's cells and
-- zeros
pub record WholeFluxFile (reader : FluxReader) (answer : Answer Content) : Type 0 where
  pub whole : (buffer : List ℕ) (portions : List (List ℕ)) → reader ≡ reader_through buffer portions
      → (answer ≡ flux_answer_in (length buffer) (whole_of portions))
      × ((content : Content) → answer ≡ gives content → cells_through buffer portions ≡ flux_buffer (length buffer) (whole_of portions))

-- 18.3, 18.10: what `stopped` answers, where `start` was called on a buffer and then `feed` on each portion in turn: whether the bytes so
-- far are refused at once, or the buffer is. Where it answers yes, the file gives the same whatever comes after
pub record AtOnce (reader : FluxReader) (stopped : Bool) : Type 0 where
  pub exactly : (buffer : List ℕ) (portions : List (List ℕ)) → reader ≡ reader_through buffer portions
      → stopped ≡ (ltb (length buffer) 16384 || refused_at_once (whole_of portions))
  pub settled : stopped ≡ true → (buffer : List ℕ) (portions : List (List ℕ)) → reader ≡ reader_through buffer portions → (rest : List ℕ)
      → flux_answer_in (length buffer) (whole_of portions ++ rest) ≡ flux_answer_in (length buffer) (whole_of portions)
