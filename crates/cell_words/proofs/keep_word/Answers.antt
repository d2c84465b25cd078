-- `cell_words::keep_word` meets its contract. Assumes nothing.
use Rattle.cell_words.specs.Tests.{like_at, kept_from}
use Rattle.cell_words.proofs.Words.{Is, ◌and◌}
use Rattle.cell_words.proofs.keep_word.Goals as goal

pub returns : goal.returns
unfolding kept_from like_at
returns c s t p hx hy ha =
    let a : Is _ _ _ = record { is = ha } in
    let z : Is _ _ _ = record { is = c.like_word.ensures _ p (c.on.ensures s p hx hy) } in
    (a and z).is
