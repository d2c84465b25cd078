-- `scp_image::image_sum` meets its contract: the bytes so far are in the sum. Assumes nothing.
use Rattle.scp_image.proofs.Sums.{Summed}
use Rattle.scp_image.proofs.image_sum.Given as goal

abbrev pub invariant-loop-byte : goal.invariant-loop-byte
invariant-loop-byte l = Summed l.sum l.portion l.all l.byte-index
