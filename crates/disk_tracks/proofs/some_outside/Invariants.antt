-- None of the first tracks is outside. Assumes nothing.
use Rattle.std.proofs.Common.{◌≡◌, false}
use Rattle.disk_tracks.specs.Given.{some, track_at, side_at}
use Rattle.disk_tracks.specs.Judgement.{is_outside}
use Rattle.disk_tracks.proofs.some_outside.Given as goal

abbrev pub invariant-loop-track : goal.invariant-loop-track
invariant-loop-track l = some (λ i. is_outside (track_at l.tracks i) (side_at l.tracks i)) l.track-index ≡ false
