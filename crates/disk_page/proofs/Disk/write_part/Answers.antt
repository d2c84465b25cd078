-- The part that the number says. Assumes nothing.
use Rattle.std.proofs.Common.{arith}
use Rattle.disk_page.proofs.Written.{track_part, last_part, no_part}
use Rattle.disk_page.proofs.Disk.write_part.Goals as goal

pub returns-then-part-lt168 : goal.returns-then-part-lt168
returns-then-part-lt168 c = track_part c.args.self.now.tracks.now c.args.self.now.findings.now c.if-part-lt168.true c.write_track.ensures (omega arith)

pub returns-then-part-eq168 : goal.returns-then-part-eq168
returns-then-part-eq168 c = last_part c.args.self.now.tracks.now c.args.self.now.findings.now c.if-part-eq168.true c.write_last_line.ensures

pub returns-else-part-eq168 : goal.returns-else-part-eq168
returns-else-part-eq168 c = no_part c.args.self.now.tracks.now c.args.self.now.findings.now c.if-part-lt168.false c.if-part-eq168.false c.args.page.now
