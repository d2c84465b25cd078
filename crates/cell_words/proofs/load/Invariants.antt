-- `cell_words::load` meets its contract: each turn loads a word more. Assumes nothing.
use mathlib.Core.Path.{◌≡◌}
use lib.ListN.{length}
use Rattle.cells.specs.CellsAndBytes.{cell}
use Rattle.cell_words.specs.Words.{Holds}
use Rattle.cell_words.specs.Tests.{one_at}
use Rattle.cell_words.proofs.load.Given as goal

abbrev pub invariant-loop-w : goal.invariant-loop-w
invariant-loop-w l = (length l.words ≡ 2116) × Holds (one_at (cell l.cells.bytes.now l.cells.count)) l.words l.w

abbrev pub invariant-loop-w-2 : goal.invariant-loop-w-2
invariant-loop-w-2 l = (length l.words ≡ 2116) × Holds (one_at (cell l.cells.bytes.now l.cells.count)) l.words l.w
