-- None of the first findings is TNF. Assumes nothing.
use Rattle.std.proofs.Common.{◌≡◌, ◌+◌, false, eqb}
use Rattle.disk_tracks.specs.Given.{some, kind_at}
use Rattle.disk_page.proofs.Disk.some_tnf.Given as goal

abbrev pub invariant-loop-k : goal.invariant-loop-k
invariant-loop-k l = some (λ i. eqb (kind_at l.self.findings.now (l.start + i)) 4) l.k ≡ false
