-- `two_reads::first_difference` meets its contract: what is left of the search finds what all of it does. Assumes nothing.
use Rattle.std.proofs.Common.{◌≡◌, ◌-◌, length}
use Rattle.basis.specs.Search.{least}
use Rattle.two_reads.specs.Comparison.{differ_at, first_difference}
use Rattle.two_reads.proofs.first_difference.Given as goal

abbrev pub invariant-loop-i : goal.invariant-loop-i
invariant-loop-i l = least (differ_at l.first l.second) (length l.first - l.i) l.i ≡ first_difference l.first l.second
