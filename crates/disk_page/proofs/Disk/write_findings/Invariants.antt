-- The lines of the first findings are written. Assumes nothing.
use Rattle.std.proofs.Common.{◌+◌, ◌*◌}
use Rattle.basis.specs.Lists.{joined}
use Rattle.disk_page.specs.Page.{entry_of, entry_lines}
use Rattle.disk_page.specs.PrivateContracts.{WroteOn}
use Rattle.disk_page.proofs.Disk.write_findings.Given as goal

abbrev pub invariant-loop-k : goal.invariant-loop-k
invariant-loop-k l =
    WroteOn l.initial.page l.page (entry_lines (joined (λ i. entry_of l.self.tracks.now l.self.findings.now l.side l.track (l.start + i)) l.k)) (80 * l.k)
