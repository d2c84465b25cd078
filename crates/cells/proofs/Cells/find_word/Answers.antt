-- `Cells::find_word` meets its contract. Assumes nothing.
use Prim.Native.Nat.{ℕ}
use mathlib.Core.Path.{sym, ap, ◌∙◌}
use Rattle.basis.proofs.Search.{least-end}
use Rattle.cells.specs.CellsAndBytes.{least_place}
use Rattle.cells.proofs.Standing.{word-without-cells, word-of-no-cells, least-capped, least-among-zeros}
use Rattle.cells.proofs.Cells.find_word.Goals as goal

pub returns-then-to-from : goal.returns-then-to-from
returns-then-to-from c = sym (least-end _ _ _ c.if-to-from.true)

pub returns-then-self-eq0 : goal.returns-then-self-eq0
returns-then-self-eq0 c =
    let a = c.args in
    c.find_among_zeros.ensures
    ∙ least-among-zeros a.self.bytes.now a.self.count a.k a.x a.from a.to (λ p. word-without-cells a.self.bytes.now a.self.count a.k a.x p c.if-self-eq0.true) c.if-to-from.false

pub returns-then-length-eq0 : goal.returns-then-length-eq0
returns-then-length-eq0 c =
    let a = c.args in
    c.find_among_zeros-then-length-eq0.ensures
    ∙ least-among-zeros a.self.bytes.now a.self.count a.k a.x a.from a.to (λ p. word-of-no-cells a.self.bytes.now a.self.count a.k a.x p (sym c.min-length.ensures ∙ c.if-length-eq0.true)) c.if-to-from.false

pub returns : goal.returns
returns c =
    let a = c.args in
    c.in_turn.ensures ∙ ap (λ (k : ℕ). least_place a.self.bytes.now a.self.count k a.x a.from a.to) c.min-length.ensures ∙ least-capped a.self.bytes.now a.self.count a.k a.x a.from a.to
