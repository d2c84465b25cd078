-- `Cells::word` meets its contract. Assumes nothing.
use Prim.Native.Nat.{ℕ, ◌%◌, ◌^◌, min}
use mathlib.Core.Path.{sym, ap, ◌∙◌}
use native.Mathlib.Nat.{min-le_right}
use Rattle.cells.specs.CellsAndBytes.{cell, word, word_at}
use Rattle.cells.proofs.Places.{cell-lt}
use Rattle.cells.proofs.Words.{small}
use Rattle.cells.proofs.Standing.{word-without-cells}
use Rattle.cells.proofs.Cells.word.Goals as goal

pub returns-then-self-eq0 : goal.returns-then-self-eq0
returns-then-self-eq0 c =
    let a = c.args in
    sym (word-without-cells a.self.bytes.now a.self.count a.k 0 a.p c.if-self-eq0.true)

pub returns : goal.returns
unfolding word_at
returns c =
    let a = c.args in
    c.last_cells.ensures ∙ ap (λ (k : ℕ). word (cell a.self.bytes.now a.self.count) k a.p % 2 ^ 64) c.min.ensures
    ∙ small (cell a.self.bytes.now a.self.count) (cell-lt a.self.bytes.now a.self.count) (min a.k 64) (min-le_right a.k 64) a.p
