-- `cell_words::gap_word` meets its contract. Assumes nothing.
use Rattle.cell_words.proofs.Words.{Is, ◌and◌, ◌or◌, neg}
use Rattle.cell_words.specs.Tests.{gap_from}
use Rattle.cell_words.proofs.gap_word.Goals as goal

pub returns : goal.returns
unfolding gap_from
returns c s t p hx hy ha =
    let x : Is _ _ _ = record { is = hx } in
    let a : Is _ _ _ = record { is = ha } in
    let x1 : Is _ _ _ = record { is = c.on-x1.ensures s p hx hy } in
    let x3 : Is _ _ _ = record { is = c.on-x3.ensures s p hx hy } in
    let x4 : Is _ _ _ = record { is = c.on-x4.ensures s p hx hy } in
    ((x and x1) or (a and neg (x3 or x4))).is
