-- `sector_image::write_sector` meets its contract: after i turns the first i bytes of the sector are stored. Assumes nothing.
use mathlib.Core.Path.{◌≡◌, refl}
use native.Mathlib.Omega.{arith}
use Rattle.basis.specs.Lists.{listed}
use Rattle.cells.specs.CellsAndBytes.{cell}
use Rattle.sector_records.specs.Sectors.{byte_from, bytes_from}
use Rattle.sector_image.proofs.Parts.{stored_more}
use Rattle.sector_image.proofs.write_sector.Goals as goal

pub loop-i-init : goal.loop-i-init
unfolding listed
loop-i-init c = refl

pub loop-i-preserved : goal.loop-i-preserved
unfolding byte_from
loop-i-preserved c =
    let a = c.args in
    stored_more (byte_from (cell a.cells.bytes.now a.cells.count) a.p) a.image.now a.at c.loop-i.i _ _ c.loop-i.invariant c.byte_on.ensures

pub returns : goal.returns
unfolding bytes_from
returns c =
    let l = c.loop-i in
    let e : l.i ≡ 512 = omega arith in
    rw e at l.invariant
