-- `scp_image::Head::tracks_there` meets its contract: the entries so far are counted. Assumes nothing.
use Rattle.scp_image.specs.Entries.{is_there}
use Rattle.scp_image.proofs.Entries.{Tallied}
use Rattle.scp_image.proofs.Head.tracks_there.Given as goal

abbrev pub invariant-loop-entry : goal.invariant-loop-entry
invariant-loop-entry l = Tallied (is_there l.self.first.now) 168 l.tracks l.entry
