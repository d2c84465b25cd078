-- Side after side, and the last line. Assumes nothing.
use Rattle.std.proofs.Common.{arith}
use Rattle.disk_page.proofs.Written.{page_whole}
use Rattle.disk_page.proofs.Disk.write_page.Goals as goal

pub returns : goal.returns
returns c = page_whole c.args.self.now.tracks.now c.args.self.now.findings.now c.write_side.ensures c.write_side-2.ensures c.write_last_line.ensures (omega arith)
