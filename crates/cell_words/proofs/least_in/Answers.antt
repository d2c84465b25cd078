-- `cell_words::least_in` meets its contract. Assumes nothing.
use Prim.Native.Nat.{ℕ, ◌-◌}
use mathlib.Core.Path.{◌≡◌, sym, ap, ◌∙◌}
use native.Mathlib.Omega.{arith}
use Rattle.basis.specs.Search.{least}
use Rattle.basis.proofs.Search.{least-end}
use borrow.Author.Rules.{rules}
use Rattle.cell_words.proofs.least_in.Goals as goal

pub returns-then-end-from : goal.returns-then-end-from
returns-then-end-from c = (
  search rules,
  λ t m h g b.
      let a = c.args in
      sym (least-end t a.from a.to (search rules)),
)

pub returns : goal.returns
returns c = (
  c.least_before.ensures.0,
  λ t m h g b.
      let s = c in
      let a = c.args in
      let e : c.min-end.result ≡ a.to = omega arith in
      c.least_before.ensures.1 t m h (search rules) b ∙ ap (λ (k : ℕ). least t (k - a.from) a.from) e,
)
