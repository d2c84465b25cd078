-- `mfm::sixteen_cells` meets its contract. Assumes nothing.
use Prim.Native.Nat.{◌+◌, ◌≤◌}
use mathlib.Core.Path.{◌∙◌}
use borrow.Author.Rules.{rules}
use native.Mathlib.Omega.{arith}
use Rattle.cells.specs.CellsAndBytes.{cell}
use Rattle.cells.proofs.InBytes.{word-in-three}
use Rattle.cells.proofs.Places.{cell-lt}
use Rattle.cells.proofs.Standing.{word-is}
use Rattle.cells.proofs.Words.{word_lt}
use Rattle.mfm.proofs.sixteen_cells.Goals as goal

pub returns-then-k-bytes : goal.returns-then-k-bytes
returns-then-k-bytes c =
    let a = c.args in
    let h : a.p + 16 ≤ a.cells.count = omega arith in (
      rw (c.from.ensures, c.from-then-k-bytes.ensures, c.from-then-k-bytes-2.ensures)
          (word-in-three a.cells.bytes.now (λ i. search rules) a.cells.count a.p h),
      omega arith,
    )

pub returns : goal.returns
returns c =
    let a = c.args in
    let f = cell a.cells.bytes.now a.cells.count in
    let e = c.word.ensures ∙ word-is a.cells.bytes.now a.cells.count 16 0 a.p (omega arith) in
    (e, rw e (word_lt f (cell-lt a.cells.bytes.now a.cells.count) 16 a.p))
