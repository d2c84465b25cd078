-- A word, and then a number. Assumes nothing.
use Rattle.lines.proofs.Steps.{◌and◌}
use Rattle.lines.proofs.Line.field.Goals as goal

pub returns : goal.returns
returns c = c.word.ensures and c.number.ensures
