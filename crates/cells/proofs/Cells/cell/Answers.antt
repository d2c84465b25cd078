-- `Cells::cell` meets its contract. Assumes nothing.
use Prim.Native.Nat.{◌<◌}
use mathlib.Core.Path.{sym, ◌∙◌}
use native.Mathlib.Omega.{arith}
use Rattle.cells.proofs.Places.{cell-none, cell-low, cell-is}
use Rattle.cells.proofs.Cells.cell.Goals as goal

pub returns-then-self-eq0 : goal.returns-then-self-eq0
returns-then-self-eq0 c = rw c.if-self-eq0.true (sym (cell-none _ _))

pub returns-then-p-self : goal.returns-then-p-self
returns-then-p-self c = c.cell_at.ensures ∙ sym (cell-low _ _ _ c.if-p-self.true)

pub returns : goal.returns
returns c =
    let a = c.args in
    let h : 0 < a.self.count = omega arith in
    c.cell_at-2.ensures ∙ sym (cell-is _ _ _ h)
