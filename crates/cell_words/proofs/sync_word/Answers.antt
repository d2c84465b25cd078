-- `cell_words::sync_word` meets its contract. Assumes nothing.
use Rattle.cell_words.proofs.Words.{Is, ◌and◌, neg}
use Rattle.cell_words.specs.PrivateContracts.{sync_from}
use Rattle.cell_words.proofs.sync_word.Goals as goal

pub returns : goal.returns
unfolding sync_from
returns c s t p hx hy ha hb =
    let x : Is _ _ _ = record { is = hx } in
    let x15 : Is _ _ _ = record { is = c.on-x15.ensures s p hx hy } in
    let a1 : Is _ _ _ = record { is = c.on-a1.ensures t p ha hb } in
    let a8 : Is _ _ _ = record { is = c.on-a8.ensures t p ha hb } in
    ((a1 and a8) and (x15 and neg x)).is
