-- `flux_conversion::convert_read` meets its contract. Assumes nothing.
use mathlib.Core.Path.{sym, ap}
use native.Mathlib.Omega.{arith}
use lib.Seq.{length-take-le}
use Rattle.track_file.specs.Portions.{read_answer}
use Rattle.flux_conversion.proofs.convert_read.Goals as goal

pub overflow_add-bytes : goal.overflow_add-bytes
overflow_add-bytes c = record { fits = omega (arith, c.requires _ (ap read_answer c.in_ok-read.was)) }

pub slice_bounds-write_file-end : goal.slice_bounds-write_file-end
slice_bounds-write_file-end c = sym (length-take-le _ _ (omega (arith, c.if-cells-lt-ROOM.false, c.requires _ (ap read_answer c.in_ok-read.was))))

pub overflow_cast-count : goal.overflow_cast-count
overflow_cast-count c = record { fits = omega (arith, c.requires _ (ap read_answer c.in_ok-read.was)) }
