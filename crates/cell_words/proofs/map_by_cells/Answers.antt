-- `cell_words::map_by_cells` meets its contract: after k cells the map is that of the places where the first k of the word stand. Assumes nothing.
use Prim.Native.Nat.{◌+◌}
use mathlib.Core.Path.{◌≡◌}
use native.Mathlib.Omega.{arith}
use Rattle.cell_words.specs.Tests.{one_at, stands_at}
use Rattle.cell_words.proofs.Words.{holds-less, holds_same}
use Rattle.cell_words.proofs.Tests.{front_stands, front-first, front-more, front-all}
use borrow.Author.Rules.{rules}
use Rattle.cell_words.proofs.map_by_cells.Goals as goal

pub loop-k-preserved : goal.loop-k-preserved
loop-k-preserved c = (
  search rules,
  search rules,
  λ f bit h u first.
      let l = c in
      let a = c.args in
      let k = c.loop-k.k in
      let i = c.loop-k.invariant.2 f bit h u first in
      let y = c.keep_by.ensures (one_at f) (front_stands f a.word k) h i.1 u i.0 in
      (y.0, holds_same _ _ (λ q. rw c.has_one-in-loop-k.ensures (front-more f bit a.word k (search rules) q)) _ a.m y.1),
)

pub returns : goal.returns
returns c f bit h u v n =
    let l = c.loop-k in
    let s = c in
    let a = c.args in
    let e : l.k ≡ 16 = omega (arith, c.loop-k-test.false, l.invariant.1) in
    let g = c.like_map.ensures (one_at f) (holds-less (one_at f) _ (a.m + 1) a.m h (omega arith)) (omega arith) n in
    let first = holds_same _ (front_stands f a.word 1) (λ q. rw c.has_one.ensures (front-first f bit a.word v q)) _ a.m g.1 in
    let y = l.invariant.2 f bit h u (g.0, first) in
    (y.0, holds_same (front_stands f a.word 16) (stands_at f a.word) (front-all f bit a.word) _ a.m (rw e at y.1))
