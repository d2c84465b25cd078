-- `listing::write_lines` meets its contract: the lines of i findings are written. Assumes nothing.
use mathlib.Core.Path.{◌≡◌}
use native.Mathlib.Omega.{arith}
use Rattle.basis.proofs.Joined.{joined-none}
use Rattle.listing.specs.PrivateContracts.{line_at}
use Rattle.listing.proofs.Lines.{lines-turn}
use Rattle.lines.proofs.Writing.{none}
use Rattle.listing.proofs.write_lines.Goals as goal

pub loop-i-init : goal.loop-i-init
loop-i-init c = rw joined-none (none _ _ _)

pub loop-i-preserved : goal.loop-i-preserved
unfolding line_at
loop-i-preserved c = lines-turn c.args.numbers.now c.loop-i.i c.loop-i.invariant c.finding_line_at-next.ensures

pub returns : goal.returns
returns c =
    let e : c.loop-i.i ≡ c.args.count = omega arith in
    rw e at c.loop-i.invariant
