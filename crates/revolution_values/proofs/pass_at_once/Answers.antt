-- `revolution_values::pass_at_once` meets its contract. Assumes nothing.
use Rattle.std.proofs.Common.{arith}
use Rattle.revolution_values.proofs.NoZeros.{passed-at-once}
use Rattle.revolution_values.proofs.pass_at_once.Goals as goal

pub returns : goal.returns
returns c = passed-at-once _ _ _ _ (λ i. omega (arith, c.type_inv.values i)) c.requires.0 c.held_at_end.ensures c.store_at_once.ensures
