-- `cell_patterns::zeros::zeros_from` meets its contract. Assumes nothing.
use Prim.Native.Nat.{◌+◌, ◌/◌}
use native.Mathlib.Omega.{arith}
use Rattle.cell_words.specs.Tests.{one_at}
use Rattle.cell_patterns.proofs.LongRuns.{zeros-before-end, zeros-over-index}
use borrow.Author.Rules.{rules}
use Rattle.cell_patterns.proofs.zeros.zeros_from.Goals as goal

pub returns-then-end-n : goal.returns-then-end-n
returns-then-end-n c = (
  omega (arith, c.if-end-n.true),
  λ f round held first.
      let s = c in
      let a = c.args in
      zeros-before-end f a.n a.p c.requires.0 _ (c.least_in-end.ensures.1 (one_at f) (a.n / 64 + 1) held (search rules) (search rules)) c.if-end-n.true,
)

pub returns : goal.returns
returns c = (
  search rules,
  λ f round held first.
      let s = c in
      let a = c.args in
      zeros-over-index f a.n a.p c.requires.0 round _ a.first _
      (c.least_in-end.ensures.1 (one_at f) (a.n / 64 + 1) held (search rules) (search rules)) c.if-end-n.false first c.min.ensures,
)
