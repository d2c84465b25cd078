-- Two digits are two bytes. Assumes nothing.
use Rattle.std.proofs.Common.{rules}
use Rattle.lines.specs.Lines.{two_digits}
use Rattle.lines.proofs.Writing.{answer_is, out_is}
use Rattle.lines.proofs.two_digits.Goals as goal

pub returns-clause-answer : goal.returns-clause-answer
unfolding two_digits
returns-clause-answer c = answer_is c.two_digits.ensures.wrote

pub returns-clause-out : goal.returns-clause-out
returns-clause-out c = search (rules, out_is c.two_digits.ensures.wrote)
