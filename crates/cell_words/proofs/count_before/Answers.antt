-- `cell_words::count_before` meets its contract. Assumes nothing.
use Prim.Native.Nat.{◌*◌, ◌/◌}
use Rattle.cell_words.proofs.Words.{holds_at}
use Rattle.cell_words.proofs.Ranges.{count-within, count-two, count-three}
use borrow.Author.Rules.{rules}
use Rattle.cell_words.proofs.count_before.Goals as goal

pub returns-then-a-b : goal.returns-then-a-b
returns-then-a-b c = (
  search rules,
  λ t m h g b.
      let a = c.args in
      count-within t a.from a.to _ (c.count_part.ensures.1 t (64 * (a.from / 64)) (holds_at t a.map.now m (a.from / 64) h (search rules))),
)

pub returns-then-last-eq0 : goal.returns-then-last-eq0
returns-then-last-eq0 c = (
  search rules,
  λ t m h g b.
      let a = c.args in
      count-two t a.from a.to (search rules) _ _
      (c.count_part-first.ensures.1 t (64 * (a.from / 64)) (holds_at t a.map.now m (a.from / 64) h (search rules)))
      (c.count_words-middle.ensures.1 t m h (search rules)) c.if-last-eq0.true,
)

pub returns : goal.returns
returns c = (
  search rules,
  λ t m h g b.
      let a = c.args in
      count-three t a.from a.to (search rules) _ _
      (c.count_part-first.ensures.1 t (64 * (a.from / 64)) (holds_at t a.map.now m (a.from / 64) h (search rules)))
      (c.count_words-middle.ensures.1 t m h (search rules)) _
      (c.count_part-2.ensures.1 t (64 * (a.to / 64)) (holds_at t a.map.now m (a.to / 64) h (search rules))),
)
