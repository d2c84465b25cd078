-- `cell_words::thrice_word` meets its contract. Assumes nothing.
use Rattle.cell_words.proofs.Words.{Is, ◌and◌}
use Rattle.cell_words.specs.Tests.{thrice_at}
use Rattle.cell_words.proofs.thrice_word.Goals as goal

pub returns : goal.returns
unfolding thrice_at
returns c t p hx hy =
    let x : Is _ _ _ = record { is = hx } in
    let a : Is _ _ _ = record { is = c.on-a.ensures t p hx hy } in
    let b : Is _ _ _ = record { is = c.on-b.ensures t p hx hy } in
    (x and (a and b)).is
