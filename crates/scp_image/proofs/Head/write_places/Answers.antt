-- `scp_image::Head::write_places` meets its contract: the numbers so far stand at the front. Assumes nothing.
use Rattle.std.proofs.Common.{arith}
use Rattle.scp_image.proofs.Entries.{none_written, one_written, all_written}
use Rattle.scp_image.proofs.Head.write_places.Goals as goal

pub loop-i-init : goal.loop-i-init
loop-i-init c = none_written _ _ _

pub loop-i-preserved : goal.loop-i-preserved
loop-i-preserved c = one_written _ _ c.loop-i.invariant (omega (arith, c.min-i-end.ensures, c.loop-i-test.true)) c.place_number.ensures

pub returns : goal.returns
returns c = all_written _ _ c.loop-i.invariant (omega (arith, c.min-i-end.ensures, c.loop-i-test.false, c.loop-i.auto.i-end))
