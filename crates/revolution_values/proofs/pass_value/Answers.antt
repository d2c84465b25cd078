-- `revolution_values::pass_value` meets its contract. Assumes nothing.
use Rattle.revolution_values.proofs.Passing.{value-zero, value-timing}
use Rattle.revolution_values.proofs.pass_value.Goals as goal

pub returns-then-value-eq0 : goal.returns-then-value-eq0
returns-then-value-eq0 c = value-zero _ _ _ _ _ c.if-value-eq0.true c.min.ensures

pub returns : goal.returns
returns c = value-timing _ _ _ _ _ c.if-value-eq0.false c.out_after.ensures c.store.ensures
