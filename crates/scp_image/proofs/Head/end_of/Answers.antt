-- `scp_image::Head::end_of` meets its contract: the end stands beside the entries so far. Assumes nothing.
use Rattle.std.proofs.Common.{◌≡◌, ◌∙◌, ap, arith}
use Rattle.scp_image.specs.Entries.{limit_of, end_among}
use Rattle.scp_image.proofs.Head.end_of.Goals as goal

pub returns : goal.returns
returns c =
    let image = c.args.self.first.now in
    let last : c.loop-other.other ≡ 168 = omega (arith, c.loop-other-test.false, c.loop-other.auto.other-end) in
    c.loop-other.invariant ∙ ap (end_among image (limit_of image c.args.self.image_length) c.args.entry) last
