-- The findings of the first tracks are summed. Assumes nothing.
use Rattle.std.proofs.Common.{◌+◌, ◌*◌, arith, refl}
use Rattle.disk_tracks.specs.Given.{before}
use Rattle.disk_tracks.proofs.Chunks.{is_track}
use Rattle.disk_tracks.proofs.sum.Goals as goal
use Rattle.disk_tracks.proofs.Sums.{before_more}

pub loop-own-init : goal.loop-own-init
unfolding before
loop-own-init c = (refl, omega arith)

pub loop-own-preserved : goal.loop-own-preserved
loop-own-preserved c =
    let i = c.loop-own.own-index in
    let t = is_track c.args.tracks.now i c.as_chunks.ensures.front (omega (arith, c.as_chunks.ensures.front_len, c.loop-own-test.true)) in
    (omega (arith, before_more c.args.tracks.now i, c.loop-own.invariant.0, t.own), omega (arith, c.loop-own.invariant.1, t.own, (c.type_inv.tracks (3 * i + 2)).fits))
