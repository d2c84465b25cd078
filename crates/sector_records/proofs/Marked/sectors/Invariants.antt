-- `sector_records::Marked::sectors` meets its contract: at each turn the sectors before p are kept, as many as there is room for. Assumes nothing.
use Prim.Native.Nat.{◌-◌}
use Rattle.sector_records.specs.PrivateContracts.{cells_on}
use Rattle.sector_records.proofs.Listing.{Before}
use Rattle.sector_records.proofs.Marked.sectors.Given as goal

abbrev pub invariant-loop-p : goal.invariant-loop-p
invariant-loop-p l = Before l.self.layout (cells_on l.self.cells) l.self.cells.count l.sectors l.p

abbrev pub decreases-loop-p : goal.decreases-loop-p
decreases-loop-p l = l.self.cells.count - l.p
