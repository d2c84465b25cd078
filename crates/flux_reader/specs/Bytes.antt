-- Section 18 of the specification: the old flux file as its bytes come: what one byte does to the reader and to the cell buffer. The main
-- property: the reader keeps the section it is in and the counts, and no timings and no file (rule 18.9). Assumes nothing.
use Rattle.std.specs.Prelude.{ℕ, ◌-◌, cond, List, eqb, ltb, Result}
use Rattle.refusals.specs.declared.Refusal.TheVariants.{TooManyTimings, NotATrackFile as NoTrackFile}
use Rattle.taken_timings.specs.Timings.{none_taken, taken_after, taken_cells}
use Rattle.taken_timings.specs.declared.Taken.{Taken}
use Rattle.file_reader.specs.Bytes.{number_after}
use Rattle.file_reader.specs.declared.Place.{Place}
use Rattle.file_reader.specs.declared.Number.TheVariants.{Empty}
use Rattle.file_reader.specs.declared.Extended.{Extended}
use Rattle.file_reader.specs.declared.Extended.TheVariants.{Part, Whole}
use Rattle.flux_reader.specs.declared.FluxReader.{FluxReader}
use Rattle.flux_reader.specs.declared.FluxReader.TheVariants.{PlaceCount, Track, Side, CellCount, FluxCount, Timings, AllTimings, NotATrackFile, Stopped}

-- 18.1, 18.2: after the count of the place come T and H; a count other than 2 is refused at once
unfoldable pub after_place_count : ℕ → FluxReader
after_place_count count = cond (eqb count 2) Track (Stopped NoTrackFile)

-- 18.1, 18.2: after the count of cells, which is 0, comes the flux section; any other count is refused at once
unfoldable pub after_cell_count : Place → ℕ → FluxReader
after_cell_count place count = cond (eqb count 0) (FluxCount place Empty) (Stopped NoTrackFile)

-- 18.1, 18.2, 18.4: after the count of timings come the timings. Above 65,536 it is refused at once; where it is 0, the bytes are no flux file
unfoldable pub after_flux_count : Place → ℕ → FluxReader
after_flux_count place count =
    cond (ltb 65536 count) (Stopped (TooManyTimings count)) (cond (eqb count 0) NotATrackFile (Timings place count Empty none_taken))

-- 18.1: after a timing, the first of `left`, comes the next, or the file is whole
unfoldable pub after_timing : Place → ℕ → Result Taken ℕ → FluxReader
after_timing place left taken = cond (ltb 1 left) (Timings place (left - 1) Empty taken) (AllTimings place taken)

-- 18.2: the reader after a byte of a count or of a timing. Nothing is judged before all four are there
unfoldable pub in_place_count : Extended → FluxReader
in_place_count (Part number) = PlaceCount number
in_place_count (Whole count) = after_place_count count

unfoldable pub in_cell_count : Place → Extended → FluxReader
in_cell_count place (Part number) = CellCount place number
in_cell_count place (Whole count) = after_cell_count place count

unfoldable pub in_flux_count : Place → Extended → FluxReader
in_flux_count place (Part number) = FluxCount place number
in_flux_count place (Whole count) = after_flux_count place count

unfoldable pub in_timing : Place → ℕ → Result Taken ℕ → Extended → FluxReader
in_timing place left taken (Part number) = Timings place left number taken
in_timing place left taken (Whole t) = after_timing place left (taken_after taken t)

-- 18.1, 18.3, 18.4: the reader after a byte. One after a whole file is left over, so that the bytes are no flux file; after a refusal at once
-- nothing changes
unfoldable pub reader_after_byte : FluxReader → ℕ → FluxReader
reader_after_byte (PlaceCount number) byte = in_place_count (number_after number byte)
reader_after_byte Track byte = Side byte
reader_after_byte (Side track) byte = CellCount (record { track = track; side = byte }) Empty
reader_after_byte (CellCount place number) byte = in_cell_count place (number_after number byte)
reader_after_byte (FluxCount place number) byte = in_flux_count place (number_after number byte)
reader_after_byte (Timings place left number taken) byte = in_timing place left taken (number_after number byte)
reader_after_byte (AllTimings place taken) byte = NotATrackFile
reader_after_byte NotATrackFile byte = NotATrackFile
reader_after_byte (Stopped refusal) byte = Stopped refusal

-- 18.9: the buffer after a byte of a timing: its cells are put with its last byte
unfoldable pub in_timing_cells : Result Taken ℕ → Extended → List ℕ → List ℕ
in_timing_cells taken (Part number) buffer = buffer
in_timing_cells taken (Whole t) buffer = taken_cells taken t buffer

-- 18.9: the buffer after a byte: cells of a timing are put by the separator's step, and no other byte changes it
unfoldable pub cells_after_byte : FluxReader → ℕ → List ℕ → List ℕ
cells_after_byte (PlaceCount number) byte buffer = buffer
cells_after_byte Track byte buffer = buffer
cells_after_byte (Side track) byte buffer = buffer
cells_after_byte (CellCount place number) byte buffer = buffer
cells_after_byte (FluxCount place number) byte buffer = buffer
cells_after_byte (Timings place left number taken) byte buffer = in_timing_cells taken (number_after number byte) buffer
cells_after_byte (AllTimings place taken) byte buffer = buffer
cells_after_byte NotATrackFile byte buffer = buffer
cells_after_byte (Stopped refusal) byte buffer = buffer
