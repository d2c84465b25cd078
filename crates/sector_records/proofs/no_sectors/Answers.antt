-- `sector_records::no_sectors` meets its contract. Assumes nothing.
use mathlib.Core.Path.{ap}
use lib.ListN.{replicate}
use Rattle.sector_records.specs.Sectors.{kept}
use Rattle.sector_records.specs.declared.Sector.{Sector}
use Rattle.sector_records.proofs.no_sectors.Goals as goal

pub returns : goal.returns
unfolding kept
returns c = ap (λ (zeros : Sector). record { all = replicate 64 zeros; count = 0 }) c.no_sector.ensures
