-- `listing::write_lines` meets its contract: the lines of i findings are written. Assumes nothing.
use Prim.Native.Nat.{◌*◌}
use Rattle.basis.specs.Lists.{joined}
use Rattle.lines.specs.Writing.{Wrote}
use Rattle.listing.specs.PrivateContracts.{line_at}
use Rattle.listing.proofs.write_lines.Given as goal

abbrev pub invariant-loop-i : goal.invariant-loop-i
invariant-loop-i l = Wrote l.initial.out l.at (joined (line_at l.numbers) l.i) (67 * l.i) l.out l.next
