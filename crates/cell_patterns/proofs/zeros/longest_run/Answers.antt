-- `cell_patterns::zeros::longest_run` meets its contract. Assumes nothing.
use Prim.Native.Nat.{◌+◌, ◌/◌}
use native.Mathlib.Omega.{arith}
use Rattle.cell_words.specs.Tests.{one_at}
use Rattle.cell_words.proofs.Words.{holds-less}
use Rattle.cell_patterns.proofs.LongRuns.{long_at, no-long-run}
use borrow.Author.Rules.{rules}
use Rattle.cell_patterns.proofs.zeros.longest_run.Goals as goal
use Rattle.cell_patterns.proofs.zeros.longest_run.Goals.{then-n-gt-MOST_CELLS-via-then-n-gt-MOST_CELLS, then-n-gt-MOST_CELLS-via-else-n-gt-MOST_CELLS+then-not-some_zero}

pub returns-then-n-gt-MOST_CELLS : goal.returns-then-n-gt-MOST_CELLS
returns-then-n-gt-MOST_CELLS c f round h short held long =
    let a = c.args in
    elim c.then-n-gt-MOST_CELLS.branch [
      | then-n-gt-MOST_CELLS-via-then-n-gt-MOST_CELLS w ↦ absurd (omega (arith, w.if-n-gt-MOST_CELLS.true))
      | then-n-gt-MOST_CELLS-via-else-n-gt-MOST_CELLS+then-not-some_zero w ↦ no-long-run f a.n _ (holds-less (one_at f) _ (a.n / 64 + 68) (a.n / 64 + 2) held (omega arith)) (w.some_zero.ensures w.if-not-some_zero.true (search rules))
    ]

pub returns : goal.returns
returns c f round h short held long =
    let a = c.args in
    c.longest_of_long.ensures f round h (holds-less (one_at f) _ (a.n / 64 + 68) (a.n / 64 + 1) held (omega arith))
    (holds-less (long_at f a.n) _ (a.n / 64 + 62) (a.n / 64 + 1) (c.long_map.ensures f h held long) (omega arith))
