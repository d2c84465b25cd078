-- The findings of the first tracks are summed. Assumes nothing.
use Rattle.std.proofs.Common.{◌≡◌, ◌≤◌, ◌*◌}
use Rattle.disk_tracks.specs.Given.{before}
use Rattle.disk_tracks.proofs.sum.Given as goal

abbrev pub invariant-loop-own : goal.invariant-loop-own
invariant-loop-own l = (l.all ≡ before l.tracks l.own-index) × (l.all ≤ 0x1_0000_0000 * l.own-index)
