-- `sector_records::Marked::find_id_mark` meets its contract. Assumes nothing.
use Prim.Native.Nat.{◌+◌, ◌/◌}
use mathlib.Core.Path.{◌∙◌}
use native.Mathlib.Omega.{arith}
use Rattle.sector_records.proofs.Marks.{id-single, id-double, single-density, double-density}
use Rattle.sector_records.proofs.Marked.find_id_mark.Goals as goal

pub returns-in-Single : goal.returns-in-Single
returns-in-Single c =
    let self = c.args.self.now in
    let one = single-density self.layout self.density self.is_layout c.in-Single.is in
    c.least_in.ensures.1 _ (self.cells.count / 64 + 63) (self.is_map.2 one) (omega arith) (omega arith) ∙ id-single _ _ _ _ one

pub returns-in-Double : goal.returns-in-Double
returns-in-Double c =
    let self = c.args.self.now in
    c.find_mark.ensures ∙ id-double _ _ _ _ (double-density self.layout self.density self.is_layout c.in-Double.is)
