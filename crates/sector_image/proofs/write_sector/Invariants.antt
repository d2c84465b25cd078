-- `sector_image::write_sector` meets its contract: after i turns the first i bytes of the sector are stored. Assumes nothing.
use Rattle.std.proofs.Common.{◌≡◌}
use lib.Seq.{sets}
use Rattle.basis.specs.Lists.{listed}
use Rattle.cells.specs.CellsAndBytes.{cell}
use Rattle.sector_records.specs.Sectors.{byte_from}
use Rattle.sector_image.proofs.write_sector.Given as goal

abbrev pub invariant-loop-i : goal.invariant-loop-i
invariant-loop-i l = l.image ≡ sets l.initial.image l.at (listed (byte_from (cell l.cells.bytes.now l.cells.count) l.p) l.i)
