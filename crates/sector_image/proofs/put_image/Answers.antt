-- `sector_image::put_image` meets its contract: each return is one of the judgements. Assumes nothing.
use native.Mathlib.Omega.{arith}
use Rattle.sector_image.proofs.Calls.{all_there}
use Rattle.sector_image.proofs.put_image.Goals as goal

pub write_image-requires : goal.write_image-requires
write_image-requires c = (all_there c.args.sectors.now c.requires (omega (arith, c.in_default.ensures.first)), c.if-image-lt-IMAGE.false)
