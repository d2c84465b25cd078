-- `flux_timings::all_in_range` meets its contract. The loop's invariant: where all were in range, the first timing outside its range is that of
-- the rest, counted on from those looked at. Assumes nothing.
use Prim.Native.Nat.{◌+◌}
use mathlib.Core.Path.{◌≡◌}
use mathlib.Core.Bool.{true}
use lib.ListN.{drop}
use Rattle.flux_timings.specs.Timings.{first_out}
use Rattle.flux_timings.proofs.all_in_range.Given as goal

abbrev pub invariant-loop-timing : goal.invariant-loop-timing
invariant-loop-timing l = l.all ≡ true → first_out l.timings ≡ l.timing-index + first_out (drop l.timing-index l.timings)
