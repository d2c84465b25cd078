-- `flux_timings::all_in_range` meets its contract. Assumes nothing.
use Rattle.flux_timings.proofs.FirstOut.{all_later}
use Rattle.flux_timings.proofs.all_in_range.Goals as goal

pub loop-timing-preserved : goal.loop-timing-preserved
loop-timing-preserved c = all_later _ _ _ _ c.loop-timing.invariant c.loop-timing-test.true c.timing_in_range-all.ensures
