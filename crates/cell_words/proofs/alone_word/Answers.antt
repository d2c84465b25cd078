-- `cell_words::alone_word` meets its contract. Assumes nothing.
use Rattle.cell_words.proofs.Words.{Is, ◌and◌, ◌or◌, neg}
use Rattle.cell_words.specs.Tests.{alone_at}
use Rattle.cell_words.proofs.alone_word.Goals as goal

pub returns : goal.returns
unfolding alone_at
returns c t p hx hy =
    let x : Is _ _ _ = record { is = hx } in
    let x1 : Is _ _ _ = record { is = c.on-x1.ensures t p hx hy } in
    let x2 : Is _ _ _ = record { is = c.on-x2.ensures t p hx hy } in
    (x and neg (x1 or x2)).is
