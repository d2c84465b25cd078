-- `sector_image::some_outside` meets its contract: what is left of the search finds what all of it does. Assumes nothing.
use Rattle.std.proofs.Common.{◌≡◌, ◌-◌, length}
use Rattle.basis.specs.Search.{least}
use Rattle.sector_image.specs.Image.{outside}
use Rattle.sector_image.proofs.some_outside.Given as goal

abbrev pub invariant-loop-sector : goal.invariant-loop-sector
invariant-loop-sector l = least (outside l.sectors) (length l.sectors - l.sector-index) l.sector-index ≡ least (outside l.sectors) (length l.sectors) 0
