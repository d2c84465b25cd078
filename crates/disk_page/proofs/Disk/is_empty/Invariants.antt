-- Each of the first tracks has TNF. Assumes nothing.
use Rattle.std.proofs.Common.{◌≡◌, not, false}
use Rattle.disk_tracks.specs.Given.{some}
use Rattle.disk_page.specs.Ranges.{has_tnf}
use Rattle.disk_page.proofs.Disk.is_empty.Given as goal

abbrev pub invariant-loop-track : goal.invariant-loop-track
invariant-loop-track l = some (λ T. not (has_tnf l.self.tracks.now l.self.findings.now l.side T)) l.track ≡ false
