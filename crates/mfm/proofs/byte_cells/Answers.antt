-- `mfm::byte_cells` meets its contract: the table has the cells of each byte. Assumes nothing.
use mathlib.Core.Path.{◌∙◌}
use native.Mathlib.Omega.{arith}
use Rattle.mfm.proofs.ByTable.{entry-is}
use Rattle.mfm.proofs.Cells.{bit-lt}
use Rattle.mfm.proofs.byte_cells.Goals as goal

pub returns : goal.returns
returns c =
    let a = c.args in
    c.cells_by.ensures ∙ rw c.cell_table-table.ensures (entry-is _ a.byte (bit-lt a.before) (omega arith))
