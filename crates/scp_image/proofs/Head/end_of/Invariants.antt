-- `scp_image::Head::end_of` meets its contract: the end stands beside the entries so far. Assumes nothing.
use Rattle.std.proofs.Common.{◌≡◌}
use Rattle.scp_image.specs.Entries.{limit_of, end_among}
use Rattle.scp_image.proofs.Head.end_of.Given as goal

abbrev pub invariant-loop-other : goal.invariant-loop-other
invariant-loop-other l = l.end ≡ end_among l.self.first.now (limit_of l.self.first.now l.self.image_length) l.entry l.other
