-- None of the first tracks is the one. Assumes nothing.
use Rattle.std.proofs.Common.{◌≡◌, false}
use Rattle.disk_tracks.specs.Given.{some}
use Rattle.disk_tracks.specs.Judgement.{is_at}
use Rattle.disk_tracks.proofs.is_before.Given as goal

abbrev pub invariant-loop-earlier_track : goal.invariant-loop-earlier_track
invariant-loop-earlier_track l = some (is_at l.tracks l.side l.track) l.earlier_track-index ≡ false
