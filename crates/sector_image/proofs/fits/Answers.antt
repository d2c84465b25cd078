-- `sector_image::fits` meets its contract, by what the searches for the first and the second sector of the number find. Assumes nothing.
use mathlib.Core.Path.{refl}
use native.Mathlib.Omega.{arith}
use lib.ListN.{length}
use Rattle.sector_image.proofs.Conditions.{fits-none, fits-twice, fits-once}
use Rattle.sector_image.proofs.fits.Goals as goal

pub returns-in-None : goal.returns-in-None
returns-in-None c = fits-none c.args.sectors.now c.args.number (length c.args.sectors.now) refl _ c.in-None.ensures.least (omega arith)

pub returns-in-Some-find : goal.returns-in-Some-find
returns-in-Some-find c =
    let xs = c.args.sectors.now in
    fits-twice xs c.args.number (length xs) refl _ _ c.in-Some.ensures.least (c.find.ensures.inside _ c.in-Some.is) c.in-Some-find.ensures.least (c.find-in-Some.ensures.inside _ c.in-Some-find.is)

pub returns-in-None-find : goal.returns-in-None-find
returns-in-None-find c =
    let xs = c.args.sectors.now in
    fits-once xs c.args.number (length xs) refl _ _ c.in-Some.ensures.least (c.find.ensures.inside _ c.in-Some.is) c.in-None-find.ensures.least _ (omega arith) c.is_plain.ensures
