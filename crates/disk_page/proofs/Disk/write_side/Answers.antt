-- The lines of the first tracks are written. Assumes nothing.
use Rattle.std.proofs.Common.{◌≡◌, arith}
use Rattle.disk_page.specs.Page.{side_entries}
use Rattle.disk_page.proofs.Steps.{none_joined, more_joined}
use Rattle.disk_page.proofs.Disk.write_side.Goals as goal

pub loop-track-init : goal.loop-track-init
loop-track-init c = none_joined _ _ _

pub loop-track-preserved : goal.loop-track-preserved
loop-track-preserved c = more_joined _ c.loop-track.track c.loop-track.invariant c.write_track.ensures (omega arith)

pub returns : goal.returns
unfolding side_entries
returns c =
    let e : c.loop-track.track ≡ 84 = omega (arith, c.loop-track.auto.track-end) in
    rw e at c.loop-track.invariant
