-- `cell_words::load` meets its contract: each turn loads a word more. Assumes nothing.
use Prim.Native.Nat.{◌*◌}
use mathlib.Core.Path.{◌≡◌, ◌∙◌}
use native.Mathlib.Omega.{arith}
use Rattle.cells.specs.CellsAndBytes.{cell}
use Rattle.cells.proofs.Places.{cell-lt}
use Rattle.cell_words.specs.Tests.{one_at}
use Rattle.cell_words.proofs.Words.{holds-none, holds_more, word_ones}
use Rattle.cell_words.proofs.Loading.{eight-at}
use borrow.Author.Rules.{rules}
use Rattle.cell_words.proofs.load.Goals as goal

pub loop-w-init : goal.loop-w-init
loop-w-init c = (search rules, holds-none _ _)

pub loop-w-preserved : goal.loop-w-preserved
loop-w-preserved c =
    let a = c.args.cells in
    let f = cell a.bytes.now a.count in
    let w = c.loop-w.w in
    let i = c.loop-w.invariant in (
      search rules,
      holds_more (one_at f) c.loop-w.words w _ i.1 (search rules)
          (eight-at a.bytes.now a.count w _ (search rules) c.eight_bytes.ensures ∙ word_ones f (cell-lt a.bytes.now a.count) 64 (64 * w)),
    )

pub loop-w-2-preserved : goal.loop-w-2-preserved
loop-w-2-preserved c =
    let a = c.args.cells in
    let f = cell a.bytes.now a.count in
    let w = c.loop-w-2.w in
    let i = c.loop-w-2.invariant in (
      search rules,
      holds_more (one_at f) c.loop-w-2.words w _ i.1 (search rules)
          (c.word_from.ensures ∙ word_ones f (cell-lt a.bytes.now a.count) 64 (64 * w)),
    )

pub returns : goal.returns
returns c n u =
    let i = c.loop-w-2.invariant in
    let e : c.loop-w-2.w ≡ c.args.m = omega arith in
    (i.0, rw e at i.1)
