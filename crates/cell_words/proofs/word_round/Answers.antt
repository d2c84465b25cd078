-- `cell_words::word_round` meets its contract: the cells are those from the place before the track's end. Assumes nothing.
use Rattle.cell_words.proofs.Loading.{word-in-nine, word-at-place}
use borrow.Author.Rules.{rules}
use Rattle.cell_words.proofs.word_round.Goals as goal

pub returns-then-k-cells : goal.returns-then-k-cells
returns-then-k-cells c =
    let q = c in
    let a = c.args in
    word-in-nine a.cells.bytes.now a.cells.count c.place_on-at.result a.p _ (search rules) (c.place_on-at.ensures a.cells.bytes.now) c.nine_bytes.ensures

pub returns : goal.returns
returns c =
    let q = c in
    let a = c.args in
    word-at-place a.cells.bytes.now a.cells.count c.place_on-at.result a.p _ (c.place_on-at.ensures a.cells.bytes.now) c.word.ensures
