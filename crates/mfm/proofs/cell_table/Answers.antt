-- `mfm::cell_table` meets its contract: the table is the list that the clock rule gives, by one computation. Assumes nothing.
use mathlib.Core.Path.{refl}
use Rattle.basis.specs.Lists.{listed}
use Rattle.cells.specs.CellsAndBytes.{word}
use Rattle.mfm.specs.Coding.{bit_cells, byte_cells}
use Rattle.mfm.specs.Table.{cells_of_entry, cell_table}
use Rattle.mfm.proofs.cell_table.Goals as goal

pub returns : goal.returns
unfolding cell_table cells_of_entry listed byte_cells word bit_cells
returns c = refl
