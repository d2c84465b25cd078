-- `cell_words::word_map` meets its contract. Assumes nothing.
use Prim.Native.Nat.{◌+◌}
use native.Mathlib.Omega.{arith}
use Rattle.cell_words.specs.Tests.{one_at}
use Rattle.cell_words.proofs.Words.{holds-less}
use Rattle.cell_words.proofs.word_map.Goals as goal

pub returns-then-word-eq-SYNC : goal.returns-then-word-eq-SYNC
returns-then-word-eq-SYNC c f bit h u v n = rw c.if-word-eq-SYNC.true (c.map_of_syncs.ensures f bit h u n)

pub returns : goal.returns
returns c f bit h u v n =
    let a = c.args in
    c.map_by_cells.ensures f bit (holds-less (one_at f) _ (a.m + 3) (a.m + 1) h (omega arith)) (omega arith) v n
