-- No finding of the first tracks is amiss. Assumes nothing.
use Rattle.std.proofs.Common.{◌≡◌, false}
use Rattle.disk_tracks.specs.Given.{some, before, track_at, own_at}
use Rattle.disk_tracks.specs.Judgement.{amiss_at}
use Rattle.disk_tracks.proofs.some_amiss.Given as goal

abbrev pub invariant-loop-track : goal.invariant-loop-track
invariant-loop-track l =
    (l.start ≡ before l.tracks l.track-index)
    × (some (λ i. some (amiss_at (track_at l.tracks i) l.findings (before l.tracks i)) (own_at l.tracks i)) l.track-index ≡ false)
