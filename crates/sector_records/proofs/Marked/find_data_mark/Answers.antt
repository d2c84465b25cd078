-- `sector_records::Marked::find_data_mark` meets its contract. In single density the second word is looked for before the place of the first. Assumes nothing.
use mathlib.Core.Path.{ap, ◌∙◌}
use Prim.Native.Nat.{ℕ, ◌-◌}
use Rattle.basis.specs.Search.{least}
use Rattle.basis.proofs.Search.{least-either}
use Rattle.sector_records.specs.Marks.{word_mark_at}
use Rattle.sector_records.specs.PrivateContracts.{cells_on}
use Rattle.sector_records.proofs.Marks.{word-found, data-single, data-double, single-density, double-density}
use Rattle.sector_records.proofs.Marked.find_data_mark.Goals as goal

pub returns-in-Single : goal.returns-in-Single
returns-in-Single c =
    let a = c.args in
    let self = a.self.now in
    let f = cells_on self.cells in
    word-found _ _ _ _ _ _ c.find_word.ensures
    ∙ ap (λ (q : ℕ). least (word_mark_at f 0xF56A) (q - a.from) a.from) (word-found _ _ _ _ _ _ c.find_word-data.ensures)
    ∙ least-either (word_mark_at f 0xF56F) (word_mark_at f 0xF56A) (a.to - a.from) a.from
    ∙ data-single _ _ _ _ (single-density self.layout self.density self.is_layout c.in-Single.is)

pub returns-in-Double : goal.returns-in-Double
returns-in-Double c =
    let self = c.args.self.now in
    c.find_mark.ensures ∙ data-double _ _ _ _ (double-density self.layout self.density self.is_layout c.in-Double.is)
