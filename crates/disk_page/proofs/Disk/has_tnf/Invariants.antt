-- None of the first tracks is the one and has TNF. Assumes nothing.
use Rattle.std.proofs.Common.{◌≡◌, ◌+◌, ◌&&◌, false, eqb}
use Rattle.disk_tracks.specs.Given.{some, before, own_at, kind_at}
use Rattle.disk_tracks.specs.Judgement.{is_at}
use Rattle.disk_page.proofs.Disk.has_tnf.Given as goal

abbrev pub invariant-loop-given_track : goal.invariant-loop-given_track
invariant-loop-given_track l =
    (l.start ≡ before l.self.tracks.now l.given_track-index)
    × (some (λ i. is_at l.self.tracks.now l.side l.track i && some (λ k. eqb (kind_at l.self.findings.now (before l.self.tracks.now i + k)) 4) (own_at l.self.tracks.now i)) l.given_track-index ≡ false)
