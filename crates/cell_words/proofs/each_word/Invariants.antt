-- `cell_words::each_word` meets its contract: each turn makes a word more, and leaves those after it. Assumes nothing.
use Prim.Native.Nat.{ℕ, ◌+◌, ◌≤◌, ◌<◌}
use mathlib.Core.Path.{◌≡◌}
use lib.ListN.{get_or}
use Rattle.cell_words.proofs.each_word.Given as goal

abbrev pub invariant-loop-w : goal.invariant-loop-w
invariant-loop-w g l = record {
  callable : goal.F-IsAlwaysCallable g l.f;
  same : l.f ≡ l.fn.f;
  made : (k : ℕ) → k < l.w → goal.F-post g l.f (get_or l.words k 0) (get_or l.words (k + 1) 0) (get_or l.initial.map k 0) (get_or l.initial.map (k + 1) 0) (get_or l.map k 0);
  rest : (k : ℕ) → l.w ≤ k → get_or l.map k 0 ≡ get_or l.initial.map k 0;
}
