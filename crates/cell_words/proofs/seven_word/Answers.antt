-- `cell_words::seven_word` meets its contract. Assumes nothing.
use Rattle.cell_words.proofs.Words.{Is, ◌and◌, neg}
use Rattle.cell_words.specs.PrivateContracts.{seven_from}
use Rattle.cell_words.proofs.seven_word.Goals as goal

pub returns : goal.returns
unfolding seven_from
returns c s t p hx hy ha hb =
    let a : Is _ _ _ = record { is = ha } in
    let x3 : Is _ _ _ = record { is = c.on-x3.ensures s p hx hy } in
    let a4 : Is _ _ _ = record { is = c.on-a4.ensures t p ha hb } in
    (a and (neg x3 and a4)).is
