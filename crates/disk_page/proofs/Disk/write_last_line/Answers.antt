-- The last line, where it stands. Assumes nothing.
use Rattle.std.proofs.Common.{sym, ◌∙◌}
use Rattle.lines.specs.Lines.{bytes_of}
use Rattle.disk_page.proofs.Disk.write_last_line.Goals as goal

pub returns-then-is_single_sided : goal.returns-then-is_single_sided
unfolding bytes_of
returns-then-is_single_sided c = rw (sym c.is_single_sided.ensures ∙ c.if-is_single_sided.true) c.word.ensures
