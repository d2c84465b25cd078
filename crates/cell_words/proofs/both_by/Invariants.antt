-- `cell_words::both_by` meets its contract: each turn makes a word more, and leaves those after it. Assumes nothing.
use Prim.Native.Nat.{ℕ, ◌+◌, ◌≤◌, ◌<◌}
use mathlib.Core.Path.{◌≡◌}
use mathlib.Core.Bool.{Bool}
use lib.ListN.{length, get_or}
use Rattle.cell_words.specs.Words.{mask}
use Rattle.cell_words.specs.Tests.{both_at}
use Rattle.cell_words.proofs.both_by.Given as goal

abbrev pub invariant-loop-w : goal.invariant-loop-w
invariant-loop-w l = record {
  long : length l.map ≡ 2116;
  made : (i : ℕ) → i < l.w → (t : ℕ → Bool) (p : ℕ) → get_or l.initial.map i 0 ≡ mask t 64 p → get_or l.initial.map (i + 1) 0 ≡ mask t 64 (p + 64) → get_or l.map i 0 ≡ mask (both_at l.k t) 64 p;
  rest : (i : ℕ) → l.w ≤ i → get_or l.map i 0 ≡ get_or l.initial.map i 0;
}
