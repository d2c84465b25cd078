-- `sector_image::find` meets its contract: what is left of the search finds what all of it does. Assumes nothing.
use Rattle.std.proofs.Common.{◌≡◌, ◌-◌, length}
use Rattle.basis.specs.Search.{least}
use Rattle.sector_image.specs.Image.{numbered}
use Rattle.sector_image.proofs.find.Given as goal

abbrev pub invariant-loop-i : goal.invariant-loop-i
invariant-loop-i l = least (numbered l.sectors l.number) (length l.sectors - l.i) l.i ≡ least (numbered l.sectors l.number) (length l.sectors - l.from) l.from
