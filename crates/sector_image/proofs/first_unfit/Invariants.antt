-- `sector_image::first_unfit` meets its contract: what is left of the search finds what all of it does. Assumes nothing.
use Rattle.std.proofs.Common.{◌≡◌, ◌-◌, not}
use Rattle.basis.specs.Search.{least}
use Rattle.sector_image.specs.Image.{fits, first_unfit}
use Rattle.sector_image.proofs.first_unfit.Given as goal

abbrev pub invariant-loop-number : goal.invariant-loop-number
invariant-loop-number l = least (λ k. not (fits l.sectors k)) (10 - l.number) l.number ≡ first_unfit l.sectors
