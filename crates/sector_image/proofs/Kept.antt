-- The sectors of a track, as the struct keeps them. Assumes nothing.
use Prim.Native.Nat.{◌≤◌}
use mathlib.Core.Path.{◌≡◌, refl}
use mathlib.Core.List.{List, ◌++◌}
use lib.ListN.{length, take, replicate}
use lib.Seq.{take-take, take_at}
use Rattle.sector_records.specs.Sectors.{no_sector, kept}
use Rattle.sector_records.specs.declared.Sector.{Sector}
use Rattle.sector_records.specs.declared.Sectors.{Sectors}

pub sectors-kept : (xs : List Sector) (ss : Sectors) → ss ≡ kept xs → length xs ≤ 64 → take ss.count ss.all ≡ xs
unfolding kept
sectors-kept xs ss are few = rw (are, take-take (length xs) 64 (xs ++ replicate 64 no_sector) few) (take_at xs (replicate 64 no_sector) (length xs) refl)
