-- `cell_words::nine_bytes` meets its contract. Assumes nothing.
use native.Mathlib.Omega.{arith}
use Rattle.cell_words.proofs.Loading.{nine-bytes-are}
use borrow.Author.Rules.{rules}
use Rattle.cell_words.proofs.nine_bytes.Goals as goal

pub returns : goal.returns
returns c =
    let s = c in
    let a = c.args in
    nine-bytes-are a.bytes.now (λ i. omega (arith, c.type_inv.bytes i)) a.k a.s _ _ (search rules) c.eight_bytes.ensures c.from.ensures
