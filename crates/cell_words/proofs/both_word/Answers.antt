-- `cell_words::both_word` meets its contract. Assumes nothing.
use Rattle.cell_words.specs.Tests.{both_at}
use Rattle.cell_words.proofs.Words.{Is, ◌and◌}
use Rattle.cell_words.proofs.both_word.Goals as goal

pub returns : goal.returns
unfolding both_at
returns c t p hx hy =
    let x : Is _ _ _ = record { is = hx } in
    let xk : Is _ _ _ = record { is = c.on.ensures t p hx hy } in
    (x and xk).is
