-- `disk_lines::write_start` meets its contract. Assumes nothing.
use Rattle.disk_lines.proofs.Starts.{wrote_range, wrote_one}
use Rattle.disk_lines.proofs.write_start.Goals as goal

pub returns-then-first-last : goal.returns-then-first-last
returns-then-first-last c = wrote_range _ _ _ _ c.digit-a.ensures c.digit-b.ensures c.digit-s.ensures c.if-first-last.true c.digit-c.ensures c.digit-d.ensures c.copy.ensures

pub returns : goal.returns
returns c = wrote_one _ _ _ _ c.digit-a.ensures c.digit-b.ensures c.digit-s.ensures c.if-first-last.false c.copy-2.ensures
