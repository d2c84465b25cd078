-- `sector_image::write_image` meets its contract: after i turns the sectors 1 to i are stored. Assumes nothing.
use Rattle.cells.specs.CellsAndBytes.{cell}
use Rattle.sector_image.proofs.Parts.{Stored}
use Rattle.sector_image.proofs.write_image.Given as goal

abbrev pub invariant-loop-i : goal.invariant-loop-i
invariant-loop-i l = Stored (cell l.cells.bytes.now l.cells.count) l.sectors l.initial.image l.i l.image
