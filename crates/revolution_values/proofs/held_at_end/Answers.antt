-- `revolution_values::held_at_end` meets its contract. Assumes nothing.
use Rattle.std.proofs.Common.{◌∙◌}
use Rattle.revolution_values.proofs.Passing.{held-is}
use Rattle.revolution_values.proofs.held_at_end.Goals as goal

pub returns : goal.returns
returns c = held-is c.args.zeros c.args.values.now c.as_chunks.ensures.back (c.copied.ensures ∙ c.first.ensures.value)
