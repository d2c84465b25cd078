-- None of the first tracks stands before itself. Assumes nothing.
use Rattle.std.proofs.Common.{◌≡◌, false}
use Rattle.disk_tracks.specs.Given.{some, track_at, side_at}
use Rattle.disk_tracks.specs.Judgement.{is_at}
use Rattle.disk_tracks.proofs.some_twice.Given as goal

abbrev pub invariant-loop-i : goal.invariant-loop-i
invariant-loop-i l = some (λ i. some (is_at l.tracks (side_at l.tracks i) (track_at l.tracks i)) i) l.i ≡ false
