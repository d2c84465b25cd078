-- `revolution_values::out_after` meets its contract. Assumes nothing.
use Rattle.std.proofs.Common.{sym, ◌∙◌}
use Rattle.revolution_values.proofs.Passing.{out-before, out-in, out-out}
use Rattle.revolution_values.proofs.out_after.Goals as goal

pub returns-then-timing_in_range : goal.returns-then-timing_in_range
returns-then-timing_in_range c = out-in _ _ _ (sym c.timing_in_range.ensures ∙ c.if-timing_in_range.true)

pub returns-in-Some : goal.returns-in-Some
returns-in-Some c = out-before _ _ _ c.in-Some.is

pub returns-in-None : goal.returns-in-None
returns-in-None c = out-out _ _ _ c.in-None.is (sym c.timing_in_range.ensures ∙ c.if-timing_in_range.false)
