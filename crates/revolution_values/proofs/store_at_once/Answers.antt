-- `revolution_values::store_at_once` meets its contract: after i turns the timings of the first i values are stored. Assumes nothing.
use Rattle.std.proofs.Common.{sym, arith}
use Rattle.revolution_values.specs.Values.{timings_ending, between}
use Rattle.revolution_values.proofs.NoZeros.{sets-past, none-stored, one-stored, stored-end}
use Rattle.revolution_values.proofs.store_at_once.Goals as goal

pub returns-then-list-at : goal.returns-then-list-at
returns-then-list-at c = sym (sets-past (timings_ending (between 0) c.args.values.now) c.args.list.now c.args.at c.if-list-at.true)

pub loop-i-init : goal.loop-i-init
loop-i-init c = none-stored _ _ _ c.requires

pub loop-i-preserved : goal.loop-i-preserved
loop-i-preserved c = one-stored c.loop-i.invariant (omega (arith, c.min-i-end.ensures, c.loop-i-test.true)) c.two_bytes.ensures

pub returns : goal.returns
returns c = stored-end c.loop-i.invariant (omega (arith, c.loop-i-test.false, c.loop-i.auto.i-end)) c.min-i-end.ensures
