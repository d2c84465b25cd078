-- `cell_words::on` meets its contract. Assumes nothing.
use native.Mathlib.Omega.{arith}
use Rattle.cell_words.proofs.Words.{on-by}
use Rattle.cell_words.proofs.on.Goals as goal

pub returns : goal.returns
returns c t p hx hy = (on-by c.args.k (omega arith) (record { is = hx }) (record { is = hy })).is
