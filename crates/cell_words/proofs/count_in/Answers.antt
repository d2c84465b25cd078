-- `cell_words::count_in` meets its contract. Assumes nothing.
use Prim.Native.Nat.{ℕ, ◌-◌}
use mathlib.Core.Path.{◌≡◌, ap, ◌∙◌}
use native.Mathlib.Omega.{arith}
use Rattle.basis.specs.Search.{count}
use Rattle.cell_words.proofs.Ranges.{count_none}
use borrow.Author.Rules.{rules}
use Rattle.cell_words.proofs.count_in.Goals as goal

pub returns-then-end-from : goal.returns-then-end-from
returns-then-end-from c = (
  search rules,
  λ t m h g b.
      let a = c.args in
      count_none t a.from a.to (search rules),
)

pub returns : goal.returns
returns c = (
  c.count_before.ensures.0,
  λ t m h g b.
      let s = c in
      let a = c.args in
      let e : c.min-end.result ≡ a.to = omega arith in
      c.count_before.ensures.1 t m h (search rules) b ∙ ap (λ (k : ℕ). count t (k - a.from) a.from) e,
)
