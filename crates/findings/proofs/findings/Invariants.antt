-- `findings::findings` meets its contract: after i turns the first i findings are stored. Assumes nothing.
use mathlib.Core.Path.{◌≡◌}
use Rattle.findings.specs.PrivateContracts.{finding_at}
use Rattle.findings.proofs.Records.{filled}
use Rattle.findings.proofs.findings.Given as goal

abbrev pub invariant-loop-i : goal.invariant-loop-i
invariant-loop-i l = l.list ≡ filled (finding_at l.numbers) l.initial.list l.i
