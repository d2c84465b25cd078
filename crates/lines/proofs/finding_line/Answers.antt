-- The line from place 0 on. Assumes nothing.
use Rattle.lines.proofs.Writing.{answer_is, out_is}
use Rattle.lines.proofs.finding_line.Goals as goal

pub returns : goal.returns
returns c = record { answer = answer_is c.finding_line_at.ensures; out = out_is c.finding_line_at.ensures }
