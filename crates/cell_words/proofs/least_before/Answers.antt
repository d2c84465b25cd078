-- `cell_words::least_before` meets its contract: the least place is looked for from the words that are left. Assumes nothing.
use Prim.Native.Nat.{◌/◌}
use Rattle.cell_words.proofs.Words.{holds_at}
use Rattle.cell_words.proofs.Ranges.{first-hits, first-misses, later-hits, later-misses, nowhere}
use borrow.Author.Rules.{rules}
use Rattle.cell_words.proofs.least_before.Goals as goal

pub returns-then-first-ne0 : goal.returns-then-first-ne0
returns-then-first-ne0 c = (
  search rules,
  λ t m h g b.
      let a = c.args in
      first-hits t a.from a.to m (search rules) g _ (holds_at t a.map.now m (a.from / 64) h (search rules)) _ _
      c.if-first-ne0.true c.zeros_before.ensures.1 c.min.ensures,
)

pub loop-v-init : goal.loop-v-init
loop-v-init c =
    let a = c.args in (
      search rules,
      search rules,
      λ t m h g.
          first-misses t a.from a.to m (search rules) g _ (holds_at t a.map.now m (a.from / 64) h (search rules)) c.if-first-ne0.false,
    )

pub returns-then-x-ne0 : goal.returns-then-x-ne0
returns-then-x-ne0 c = (
  search rules,
  λ t m h g b.
      let l = c in
      let a = c.args in
      let w = c.loop-v.v in
      later-hits t a.from a.to m (search rules) g w (c.loop-v.invariant.2 t m h g) _ (holds_at t a.map.now m w h (search rules)) (search rules) _ _
      c.if-x-ne0.true c.zeros_before-then-x-ne0.ensures.1 c.min-then-x-ne0.ensures,
)

pub loop-v-preserved : goal.loop-v-preserved
loop-v-preserved c =
    let l = c in
    let a = c.args in
    let w = c.loop-v.v in (
      search rules,
      search rules,
      λ t m h g.
          later-misses t a.from a.to m (search rules) g w (c.loop-v.invariant.2 t m h g) _ (holds_at t a.map.now m w h (search rules)) (search rules) c.if-x-ne0.false,
    )

pub returns : goal.returns
returns c = (
  search rules,
  λ t m h g b.
      let l = c in
      let a = c.args in
      nowhere t a.from a.to m (search rules) g c.loop-v.v (c.loop-v.invariant.2 t m h g) (search rules),
)
