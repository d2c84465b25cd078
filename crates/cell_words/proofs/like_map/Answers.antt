-- `cell_words::like_map` meets its contract. Assumes nothing.
use native.Mathlib.Omega.{arith}
use Prim.Native.Nat.{◌*◌}
use Rattle.cell_words.specs.Words.{Holds}
use Rattle.cell_words.proofs.Words.{holds_at}
use Rattle.cell_words.proofs.like_map.Goals as goal

pub returns : goal.returns
unfolding Holds
returns c t h u n = (c.loop-w.invariant.long, λ w k. c.loop-w.invariant.made w (omega arith) t (64 * w) (holds_at t _ _ w h (omega arith)))
