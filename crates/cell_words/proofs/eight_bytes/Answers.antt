-- `cell_words::eight_bytes` meets its contract. Assumes nothing.
use native.Mathlib.Omega.{arith}
use Rattle.cell_words.proofs.Loading.{eight-bytes-are}
use Rattle.cell_words.proofs.eight_bytes.Goals as goal

pub returns : goal.returns
returns c =
    let a = c.args in
    eight-bytes-are a.bytes.now (λ i. omega (arith, c.type_inv.bytes i)) a.k _ (omega (arith, c.from_be_bytes.ensures))
