-- `histogram::counts_of` meets its contract: the counts so far, and those of what is left of the timings, make the whole.
-- Assumes nothing.
use mathlib.Core.Path.{◌≡◌}
use lib.ListN.{length}
use Rattle.histogram.proofs.Counts.{Counting}
use Rattle.histogram.proofs.counts_of.Given as goal

abbrev pub invariant-loop-timing : goal.invariant-loop-timing
invariant-loop-timing l = (length l.counts ≡ 256) × Counting l.timings l.counts l.timing-index
