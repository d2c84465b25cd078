-- The lines of the first findings are written. Assumes nothing.
use Rattle.std.proofs.Common.{arith}
use Rattle.disk_page.proofs.Steps.{none_joined, more_joined}
use Rattle.disk_page.proofs.Disk.write_findings.Goals as goal

pub loop-k-init : goal.loop-k-init
loop-k-init c = none_joined _ _ _

pub loop-k-preserved : goal.loop-k-preserved
loop-k-preserved c = more_joined _ c.loop-k.k c.loop-k.invariant c.write_finding.ensures (omega arith)
