-- `revolution_values::pass_in_turn` meets its contract: what is passed after i values is passed from the start on. Assumes nothing.
use Rattle.std.proofs.Common.{arith}
use Rattle.revolution_values.proofs.Passing.{at-start, at_next, at-end}
use Rattle.revolution_values.proofs.pass_in_turn.Goals as goal

pub loop-i-init : goal.loop-i-init
loop-i-init c = at-start _ _ _ _ _

pub loop-i-preserved : goal.loop-i-preserved
loop-i-preserved c = at_next c.loop-i.invariant c.loop-i-test.true c.two_bytes.ensures c.pass_value-seen.ensures

pub returns : goal.returns
returns c = at-end c.loop-i.invariant (omega (arith, c.loop-i-test.false, c.loop-i.auto.i-end)) c.held_at_end.ensures
