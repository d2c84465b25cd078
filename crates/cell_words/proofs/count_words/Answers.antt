-- `cell_words::count_words` meets its contract: each turn counts a word more. Assumes nothing.
use Prim.Native.Nat.{◌-◌, ◌*◌}
use mathlib.Core.Path.{◌≡◌}
use native.Mathlib.Omega.{arith}
use Rattle.cell_words.proofs.Words.{holds_at}
use Rattle.cell_words.proofs.Ranges.{count-more, count_none}
use borrow.Author.Rules.{rules}
use Rattle.cell_words.proofs.count_words.Goals as goal

pub loop-w-init : goal.loop-w-init
loop-w-init c =
    let a = c.args.a in
    let e : 64 * a - 64 * a ≡ 64 * (a - a) = omega arith in
    (search rules, λ t m h l. rw e at (count_none t (64 * a) (64 * a) (omega arith)))

pub loop-w-preserved : goal.loop-w-preserved
loop-w-preserved c =
    let map = c.args.map.now in
    let w = c.loop-w.w in
    let f = c.count_part-found.ensures.0 in (
      search rules,
      λ t m h g.
          count-more t c.args.a w _ _ (search rules) (c.loop-w.invariant.1 t m h g) (c.count_part-found.ensures.1 t (64 * w) (holds_at t map m w h (search rules))),
    )

pub returns : goal.returns
returns c =
    let e : c.loop-w.w ≡ c.args.b = omega arith in
    (search rules, λ t m h g. rw e at (c.loop-w.invariant.1 t m h (search rules)))
