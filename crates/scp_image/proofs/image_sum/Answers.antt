-- `scp_image::image_sum` meets its contract: the bytes so far are in the sum. Assumes nothing.
use Rattle.std.proofs.Common.{refl}
use Rattle.scp_image.proofs.Laws.{all-portions}
use Rattle.scp_image.proofs.Sums.{one-summed, all-summed}
use Rattle.scp_image.proofs.image_sum.Goals as goal

pub loop-byte-preserved : goal.loop-byte-preserved
loop-byte-preserved c = one-summed c.loop-byte.invariant c.loop-byte-test.true c.from-all.ensures refl

pub returns : goal.returns
returns c = let e = all-summed c.loop-byte.invariant c.loop-byte-test.false in record { sum = e; all = all-portions _ _ e }
