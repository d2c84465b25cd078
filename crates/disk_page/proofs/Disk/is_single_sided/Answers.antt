-- Just one side. Assumes nothing.
use Rattle.disk_page.proofs.Tracks.{one-side}
use Rattle.disk_page.proofs.Disk.is_single_sided.Goals as goal

pub returns : goal.returns
returns c = one-side c.args.self.now.tracks.now c.args.self.now.findings.now c.is_empty.ensures c.is_empty-2.ensures
