-- Section 10 of the specification: the track file as its bytes come: what one byte does to the reader and to the cell buffer. The main
-- property: the reader keeps the section it is in and the counts, and no file (rule 10.12). Assumes nothing.
use Rattle.std.specs.Prelude.{ℕ, ◌+◌, cond, List, eqb, ltb, set}
use Rattle.basis.specs.Bytes.{four_bytes}
use Rattle.cells.specs.CellsAndBytes.{bytes_for}
use Rattle.refusals.specs.declared.Refusal.TheVariants.{CellCount as CellsRefused, FluxSection, NotATrackFile as NoTrackFile}
use Rattle.file_reader.specs.declared.Place.{Place}
use Rattle.file_reader.specs.declared.Number.{Number}
use Rattle.file_reader.specs.declared.Number.TheVariants.{Empty, One, Two, Three}
use Rattle.file_reader.specs.declared.Extended.{Extended}
use Rattle.file_reader.specs.declared.Extended.TheVariants.{Part, Whole}
use Rattle.file_reader.specs.declared.Reader.{Reader}
use Rattle.file_reader.specs.declared.Reader.TheVariants.{PlaceCount, Track, Side, CellCount, PackedCells, FluxCount, AllCells, NotATrackFile, Stopped}

-- 10.2: a number with a byte more. It has four, the lowest first
unfoldable pub number_after : Number → ℕ → Extended
number_after Empty byte = Part (One byte)
number_after (One a) byte = Part (Two a byte)
number_after (Two a b) byte = Part (Three a b byte)
number_after (Three a b c) byte = Whole (four_bytes a b c byte)

-- 10.1, 10.4: after the count of the place come T and H; a count other than 2 is refused at once
unfoldable pub after_place_count : ℕ → Reader
after_place_count count = cond (eqb count 2) Track (Stopped NoTrackFile)

-- 10.1, 10.4: after the count of cells come the cells, or the flux section where it is 0; above 131,072 it is refused at once
unfoldable pub after_cell_count : Place → ℕ → Reader
after_cell_count place count =
    cond (ltb 131072 count) (Stopped (CellsRefused count)) (cond (eqb count 0) (FluxCount place 0 Empty) (PackedCells place count 0))

-- 10.1, 10.3: after byte `at` of the packed cells comes the next of them, or the flux section
unfoldable pub after_packed_byte : Place → ℕ → ℕ → Reader
after_packed_byte place count at = cond (ltb (at + 1) (bytes_for count)) (PackedCells place count (at + 1)) (FluxCount place count Empty)

-- 10.1, 10.4, 10.7: after the count of timings the file is whole. A count other than 0 is refused at once; where the count of cells is 0
-- too, the bytes are no track file
unfoldable pub after_flux_count : Place → ℕ → ℕ → Reader
after_flux_count place cell_count count =
    cond (eqb count 0) (cond (eqb cell_count 0) NotATrackFile (AllCells place cell_count)) (Stopped FluxSection)

-- 10.2, 10.4: the reader after a byte of a count. Nothing is judged before all four are there
unfoldable pub in_place_count : Extended → Reader
in_place_count (Part number) = PlaceCount number
in_place_count (Whole count) = after_place_count count

unfoldable pub in_cell_count : Place → Extended → Reader
in_cell_count place (Part number) = CellCount place number
in_cell_count place (Whole count) = after_cell_count place count

unfoldable pub in_flux_count : Place → ℕ → Extended → Reader
in_flux_count place cell_count (Part number) = FluxCount place cell_count number
in_flux_count place cell_count (Whole count) = after_flux_count place cell_count count

-- 10.1, 10.6, 10.7: the reader after a byte. One after a whole file is left over, so that the bytes are no track file; after a refusal at
-- once nothing changes
unfoldable pub reader_after_byte : Reader → ℕ → Reader
reader_after_byte (PlaceCount number) byte = in_place_count (number_after number byte)
reader_after_byte Track byte = Side byte
reader_after_byte (Side track) byte = CellCount (record { track = track; side = byte }) Empty
reader_after_byte (CellCount place number) byte = in_cell_count place (number_after number byte)
reader_after_byte (PackedCells place count at) byte = after_packed_byte place count at
reader_after_byte (FluxCount place cell_count number) byte = in_flux_count place cell_count (number_after number byte)
reader_after_byte (AllCells place count) byte = NotATrackFile
reader_after_byte NotATrackFile byte = NotATrackFile
reader_after_byte (Stopped refusal) byte = Stopped refusal

-- 10.9, 10.12: the buffer after a byte: packed cells are put as they stand, and no other byte changes it
unfoldable pub cells_after_byte : Reader → ℕ → List ℕ → List ℕ
cells_after_byte (PlaceCount number) byte buffer = buffer
cells_after_byte Track byte buffer = buffer
cells_after_byte (Side track) byte buffer = buffer
cells_after_byte (CellCount place number) byte buffer = buffer
cells_after_byte (PackedCells place count at) byte buffer = set buffer at byte
cells_after_byte (FluxCount place cell_count number) byte buffer = buffer
cells_after_byte (AllCells place count) byte buffer = buffer
cells_after_byte NotATrackFile byte buffer = buffer
cells_after_byte (Stopped refusal) byte buffer = buffer
