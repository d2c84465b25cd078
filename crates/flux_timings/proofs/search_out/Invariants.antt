-- `flux_timings::search_out` meets its contract. The loop's invariant: the first timing outside its range is that of the rest, counted on from
-- those looked at. Assumes nothing.
use Prim.Native.Nat.{◌+◌}
use mathlib.Core.Path.{◌≡◌}
use lib.ListN.{drop}
use Rattle.flux_timings.specs.Timings.{first_out}
use Rattle.flux_timings.proofs.search_out.Given as goal

abbrev pub invariant-loop-i : goal.invariant-loop-i
invariant-loop-i l = first_out l.timings ≡ l.i + first_out (drop l.i l.timings)
