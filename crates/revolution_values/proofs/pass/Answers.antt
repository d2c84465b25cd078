-- `revolution_values::pass` meets its contract. Assumes nothing.
use Rattle.std.proofs.Common.{◌∙◌}
use Rattle.revolution_values.proofs.Passing.{out-of-all}
use Rattle.revolution_values.proofs.pass.Goals as goal

pub returns-clause-out : goal.returns-clause-out
returns-clause-out c = rw (← c.min-zeros.ensures) (c.pass_counted.ensures.out_is ∙ out-of-all _)
