-- None of the first findings is amiss. Assumes nothing.
use Rattle.std.proofs.Common.{◌≡◌, false}
use Rattle.disk_tracks.specs.Given.{some}
use Rattle.disk_tracks.specs.Judgement.{amiss_at}
use Rattle.disk_tracks.proofs.track_amiss.Given as goal

abbrev pub invariant-loop-k : goal.invariant-loop-k
invariant-loop-k l = some (amiss_at l.track l.findings l.start) l.k ≡ false
