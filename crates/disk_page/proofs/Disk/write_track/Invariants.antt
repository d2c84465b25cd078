-- Of the first tracks those are written that are the one. Assumes nothing.
use Rattle.std.proofs.Common.{◌≡◌, ◌*◌, cond, []}
use Rattle.basis.specs.Lists.{joined}
use Rattle.disk_tracks.specs.Given.{before}
use Rattle.disk_tracks.specs.Judgement.{is_at}
use Rattle.disk_page.specs.Page.{finding_entries, entry_lines}
use Rattle.disk_page.specs.PrivateContracts.{WroteOn}
use Rattle.disk_page.proofs.Disk.write_track.Given as goal

abbrev pub invariant-loop-given_track : goal.invariant-loop-given_track
invariant-loop-given_track l =
    (l.start ≡ before l.self.tracks.now l.given_track-index)
    × WroteOn l.initial.page l.page (entry_lines (joined (λ i. cond (is_at l.self.tracks.now l.side l.track i) (finding_entries l.self.tracks.now l.self.findings.now l.side l.track i) []) l.given_track-index)) (80 * 0x1_0000_0000 * l.given_track-index)
