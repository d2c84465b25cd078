-- The line's parts one after the other. Assumes nothing.
use Rattle.std.proofs.Common.{rules}
use Rattle.lines.specs.Lines.{bytes_of, finding_line}
use Rattle.lines.proofs.Steps.{◌and◌}
use Rattle.lines.proofs.finding_line_at.Goals as goal

pub returns : goal.returns
unfolding finding_line bytes_of
returns c =
    let w = c.number.ensures and c.byte.ensures and c.name.ensures and c.field.ensures and c.field-2.ensures and c.field-3.ensures and c.byte-2.ensures in
    record { bytes = search (rules, w.wrote.bytes); place = w.wrote.place; few = w.wrote.few }
