-- `scp_image::Head::first_bad` meets its contract: no entry so far is bad. Assumes nothing.
use Rattle.std.proofs.Common.{◌≡◌, ◌-◌}
use Rattle.basis.specs.Search.{least}
use Rattle.scp_image.specs.Entries.{limit_of, bad_entry, first_bad}
use Rattle.scp_image.proofs.Head.first_bad.Given as goal

abbrev pub invariant-loop-entry : goal.invariant-loop-entry
invariant-loop-entry l =
    least (bad_entry l.self.first.now (limit_of l.self.first.now l.self.image_length)) (168 - l.entry) l.entry
    ≡ first_bad l.self.first.now (limit_of l.self.first.now l.self.image_length)
