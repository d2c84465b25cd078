-- `cell_words::word_from` meets its contract. Assumes nothing.
use mathlib.Core.Path.{refl}
use Rattle.cell_words.proofs.Loading.{word-in-nine}
use borrow.Author.Rules.{rules}
use Rattle.cell_words.proofs.word_from.Goals as goal

pub returns-then-k-cells : goal.returns-then-k-cells
returns-then-k-cells c =
    let a = c.args in
    word-in-nine a.cells.bytes.now a.cells.count a.p a.p _ (search rules) (λ q. refl) c.nine_bytes.ensures
