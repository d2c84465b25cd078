-- `cell_words::like_map` meets its contract: each turn makes a word more. Assumes nothing.
use Prim.Native.Nat.{ℕ, ◌<◌}
use mathlib.Core.Path.{◌≡◌}
use mathlib.Core.Bool.{Bool}
use lib.ListN.{length, get_or}
use Rattle.cell_words.specs.Words.{mask}
use Rattle.cell_words.specs.Tests.{like_at}
use Rattle.cell_words.proofs.like_map.Given as goal

abbrev pub invariant-loop-w : goal.invariant-loop-w
invariant-loop-w l = record {
  long : length l.map ≡ 2116;
  made : (k : ℕ) → k < l.w → (t : ℕ → Bool) (p : ℕ) → get_or l.words k 0 ≡ mask t 64 p → get_or l.map k 0 ≡ mask (like_at l.passes t) 64 p;
}
