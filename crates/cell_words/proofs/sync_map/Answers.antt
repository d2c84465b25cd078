-- `cell_words::sync_map` meets its contract. Assumes nothing.
use native.Mathlib.Omega.{arith}
use Prim.Native.Nat.{◌*◌}
use Rattle.cell_words.specs.Words.{Holds}
use Rattle.cell_words.proofs.Words.{holds_at, holds-next}
use Rattle.cell_words.proofs.sync_map.Goals as goal

pub returns : goal.returns
unfolding Holds
returns c s t h g u n =
    (c.each_word.array_long, λ w k. c.each_word.ensures w k u s t (64 * w) (holds_at s _ _ w h (omega arith)) (holds-next s _ _ w h (omega arith)) (holds_at t _ _ w g (omega arith)) (holds-next t _ _ w g (omega arith)))
