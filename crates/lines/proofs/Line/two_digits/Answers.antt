-- A digit, and then another. Assumes nothing.
use Rattle.lines.specs.Lines.{two_digits}
use Rattle.lines.proofs.Steps.{◌and◌}
use Rattle.lines.proofs.Line.two_digits.Goals as goal

pub returns : goal.returns
unfolding two_digits
returns c = rw (← c.last_digit.ensures, ← c.last_digit-2.ensures) (c.byte.ensures and c.byte-2.ensures)
