-- `cell_patterns::zeros::longest_of_long` meets its contract: the longest of the runs before p. Assumes nothing.
use Prim.Native.Nat.{ℕ, ◌+◌, ◌-◌, ◌/◌, ◌≤◌}
use mathlib.Core.Path.{◌≡◌}
use Rattle.cell_words.specs.Words.{Holds}
use Rattle.cell_words.specs.Tests.{one_at}
use Rattle.cell_patterns.proofs.LongRuns.{long_at, LongestBefore}
use Rattle.cell_patterns.proofs.zeros.longest_of_long.Given as goal

abbrev pub invariant-loop-p : goal.invariant-loop-p
invariant-loop-p l = (f : ℕ → ℕ) → ((q : ℕ) → f (q + l.n) ≡ f q) → 128 ≤ l.n → Holds (one_at f) l.words (l.n / 64 + 1) → Holds (long_at f l.n) l.long (l.n / 64 + 1) → LongestBefore f l.n l.p l.longest l.start

abbrev pub decreases-loop-p : goal.decreases-loop-p
decreases-loop-p l = l.n - l.p
