-- The word and the number, and the end of the line. Assumes nothing.
use Rattle.std.proofs.Common.{rules}
use Rattle.lines.specs.Lines.{bytes_of, refused_line}
use Rattle.lines.proofs.Steps.{◌and◌}
use Rattle.lines.proofs.Writing.{answer_is, out_is}
use Rattle.lines.proofs.refused_line.Goals as goal

pub returns-clause-answer : goal.returns-clause-answer
unfolding refused_line bytes_of
returns-clause-answer c = let w = c.field.ensures and c.byte.ensures in answer_is w.wrote

pub returns-clause-out : goal.returns-clause-out
unfolding refused_line bytes_of
returns-clause-out c = let w = c.field.ensures and c.byte.ensures in search (rules, out_is w.wrote)
