-- `track_file::feed_packed` meets its contract: after each turn what is left of the portion leads to the same end. Assumes nothing.
use native.Mathlib.Omega.{arith}
use lib.ListN.{length-take}
use Rattle.track_file.proofs.Portions.{packed-fed}
use Rattle.track_file.proofs.feed_packed.Goals as goal

pub loop-i-preserved : goal.loop-i-preserved
loop-i-preserved c =
    let t = length-take c.min-end.result c.args.portion.now in
    packed-fed c.min-end.result c.loop-i.invariant (omega (arith, t)) (omega (arith, c.min-end.ensures)) (omega (arith, t, c.min-end.ensures, c.saturating_sub-left.ensures))
    (omega arith) c.put_byte.ensures
