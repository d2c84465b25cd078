-- `sector_records::Marked::find_mark` meets its contract: every mark from `from` to p that is passed has another byte. Assumes nothing.
use Prim.Native.Nat.{◌-◌}
use Rattle.sector_records.specs.PrivateContracts.{cells_on}
use Rattle.sector_records.proofs.Marks.{Sought}
use Rattle.sector_records.proofs.Marked.find_mark.Given as goal

abbrev pub invariant-loop-p : goal.invariant-loop-p
invariant-loop-p l = Sought (cells_on l.self.cells) l.low l.high l.from l.to l.p

abbrev pub decreases-loop-p : goal.decreases-loop-p
decreases-loop-p l = l.to - l.p
