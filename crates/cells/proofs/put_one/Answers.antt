-- `cells::put_one` meets its contract. Assumes nothing.
use mathlib.Core.Path.{sym}
use lib.Seq.{set_out}
use Rattle.cells.specs.CellsAndBytes.{with_one}
use Rattle.cells.proofs.Places.{weight-fits}
use Rattle.cells.proofs.put_one.Goals as goal

pub returns-then-k-bytes : goal.returns-then-k-bytes
unfolding with_one
returns-then-k-bytes c = rw (weight-fits c.args.p)

pub returns-else-k-bytes : goal.returns-else-k-bytes
unfolding with_one
returns-else-k-bytes c = sym (set_out _ _ _ c.if-k-bytes.false)
