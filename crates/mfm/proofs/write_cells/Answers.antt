-- `mfm::write_cells` meets its contract: coding by the table is coding by the clock rule. Assumes nothing.
use mathlib.Core.Path.{◌∙◌}
use borrow.Author.Rules.{rules}
use Rattle.mfm.proofs.ByTable.{by-table}
use Rattle.mfm.proofs.Cells.{bit-lt}
use Rattle.mfm.proofs.write_cells.Goals as goal

pub returns : goal.returns
returns c =
    let s = c in
    let a = c.args in
    c.write_by_table.ensures
    ∙ rw (c.cell_table-table.ensures, by-table _ a.bytes.now (bit-lt a.before) (λ i. search rules))
