-- The header's parts one after the other. Assumes nothing.
use Rattle.std.proofs.Common.{rules}
use Rattle.lines.specs.Lines.{bytes_of, header_of}
use Rattle.lines.proofs.Steps.{◌and◌}
use Rattle.lines.proofs.Writing.{answer_is, out_is}
use Rattle.lines.proofs.header.Goals as goal

pub returns-clause-answer : goal.returns-clause-answer
unfolding header_of bytes_of
returns-clause-answer c = let w = c.byte.ensures and c.two_digits.ensures and c.field.ensures and c.field-2.ensures and c.field-3.ensures and c.field-4.ensures and c.byte-2.ensures in answer_is w.wrote

pub returns-clause-out : goal.returns-clause-out
unfolding header_of bytes_of
returns-clause-out c = let w = c.byte.ensures and c.two_digits.ensures and c.field.ensures and c.field-2.ensures and c.field-3.ensures and c.field-4.ensures and c.byte-2.ensures in search (rules, out_is w.wrote)
