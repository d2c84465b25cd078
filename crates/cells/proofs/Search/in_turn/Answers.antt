-- `Search::in_turn` meets its contract: a turn without the word shows that it stands nowhere. Assumes nothing.
use Prim.Native.Nat.{ℕ, ◌+◌, ◌-◌}
use mathlib.Core.Path.{◌≡◌, sym, ap, ◌∙◌}
use native.Mathlib.Omega.{arith}
use Rattle.basis.specs.Search.{least}
use Rattle.basis.proofs.Search.{least-longer, least-turn}
use Rattle.cells.specs.CellsAndBytes.{stands}
use Rattle.cells.proofs.Standing.{stands-again}
use Rattle.cells.proofs.Search.in_turn.Goals as goal

turn_is : (from n : ℕ) → from + n - from ≡ n
turn_is from n = omega arith

pub returns-then-p-turn : goal.returns-then-p-turn
returns-then-p-turn c =
    let a = c.args in
    let h = c.if-p-turn.true in
    let r = c.in_range-p.ensures ∙ ap (λ (m : ℕ). least (stands a.self.cells.bytes.now a.self.cells.count a.self.k a.self.x) m a.from) (turn_is a.from a.self.cells.count) in
    r ∙ sym (least-longer (stands a.self.cells.bytes.now a.self.cells.count a.self.k a.self.x) a.self.cells.count (a.to - a.from) a.from (omega arith) (omega (arith, sym r)))

pub returns-else-p-turn : goal.returns-else-p-turn
returns-else-p-turn c =
    let a = c.args in
    let s = c in
    let h = c.if-p-turn.false in
    let r = c.in_range-p.ensures ∙ ap (λ (m : ℕ). least (stands a.self.cells.bytes.now a.self.cells.count a.self.k a.self.x) m a.from) (turn_is a.from a.self.cells.count) in
    let e : a.to ≡ a.from + (a.to - a.from) = omega arith in
    e ∙ sym (least-turn (stands a.self.cells.bytes.now a.self.cells.count a.self.k a.self.x) a.self.cells.count (λ p. stands-again a.self.cells.bytes.now a.self.cells.count a.self.k a.self.x p) (a.to - a.from) a.from a.self.some (omega (arith, sym r)))
