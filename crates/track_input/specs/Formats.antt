-- The two formats of file that are read: the track file (section 10) and the old flux file (section 18), with what their crates say. Assumes nothing.
use Rattle.track_file.specs.Portions.{reader_after as track_reader_after, cells_after as track_cells_after, is_stopped as track_is_stopped}
use Rattle.flux_file.specs.Portions.{reader_after as flux_reader_after, cells_after as flux_cells_after, is_stopped as flux_is_stopped}
use Rattle.file_reader.specs.declared.Reader.{Reader}
use Rattle.flux_reader.specs.declared.FluxReader.{FluxReader}
use Rattle.track_input.specs.Reading.{Steps}

-- 10.12, 10.13: a track file
abbrev pub track_file_steps : Steps Reader
track_file_steps = record { reader_after = track_reader_after; cells_after = track_cells_after; is_stopped = track_is_stopped }

-- 18.9, 18.10: an old flux file
abbrev pub flux_file_steps : Steps FluxReader
flux_file_steps = record { reader_after = flux_reader_after; cells_after = flux_cells_after; is_stopped = flux_is_stopped }
