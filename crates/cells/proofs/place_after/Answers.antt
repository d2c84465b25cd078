-- `cells::place_after` meets its contract. Assumes nothing.
use native.Mathlib.Nat.{mod-lt}
use Rattle.cells.proofs.Places.{after-round}
use Rattle.cells.proofs.place_after.Goals as goal

pub returns-else-k-left : goal.returns-else-k-left
returns-else-k-left c = after-round _ _ _ (mod-lt _ c.requires) c.if-k-left.false
