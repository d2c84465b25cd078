-- `Cells::last_cells` meets its contract: after i turns it has the last 64 of i cells. Assumes nothing.
use Prim.Native.Nat.{◌+◌}
use mathlib.Core.Path.{refl, sym, ap, ◌∙◌}
use native.Mathlib.Nat.{mod-lt, add-zero}
use Rattle.cells.specs.CellsAndBytes.{cell_at, cell, word}
use Rattle.cells.proofs.Places.{cell_at-lt, cell-lt, cell-is, next-is}
use Rattle.cells.proofs.Words.{more-cells}
use Rattle.cells.proofs.Cells.last_cells.Goals as goal

pub loop-init : goal.loop-init
unfolding word
loop-init c = (refl, rw (add-zero _), mod-lt _ c.requires)

pub append-cells-requires : goal.append-cells-requires
append-cells-requires c = rw c.cell_at.ensures (cell_at-lt _ _)

pub loop-preserved : goal.loop-preserved
loop-preserved c =
    let inv = c.loop.invariant in
    let a = c.args in
    let i = c.loop.counter in
    let e = c.cell_at.ensures ∙ ap (cell_at a.self.bytes.now) inv.1 ∙ sym (cell-is a.self.bytes.now a.self.count (a.p + i) c.requires) in (
      c.append-cells.ensures ∙ more-cells (cell a.self.bytes.now a.self.count) (cell-lt a.self.bytes.now a.self.count) i a.p _ _ inv.0 e,
      c.next_place-at.ensures ∙ next-is _ _ _ _ inv.1,
      rw c.next_place-at.ensures (mod-lt _ c.requires),
    )
