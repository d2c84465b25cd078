-- `scp_image::Head::write_places` meets its contract: the numbers so far stand at the front. Assumes nothing.
use Rattle.scp_image.specs.Entries.{limit_of}
use Rattle.scp_image.proofs.Entries.{Written}
use Rattle.scp_image.proofs.Head.write_places.Given as goal

abbrev pub invariant-loop-i : goal.invariant-loop-i
invariant-loop-i l = Written l.self.first.now (limit_of l.self.first.now l.self.image_length) l.initial.places l.places l.i
