-- `Cells::last_cells` meets its contract: after i turns it has the last 64 of i cells. Assumes nothing.
use Prim.Native.Nat.{◌+◌, ◌%◌, ◌^◌, ◌<◌}
use mathlib.Core.Path.{◌≡◌}
use Rattle.cells.specs.CellsAndBytes.{cell, word}
use Rattle.cells.proofs.Cells.last_cells.Given as goal

abbrev pub invariant-loop : goal.invariant-loop
invariant-loop l = (l.cells ≡ word (cell l.self.bytes.now l.self.count) l.counter l.p % 2 ^ 64) × (l.at ≡ (l.p + l.counter) % l.self.count) × (l.at < l.self.count)
