-- `histogram::counts_of` meets its contract: the counts so far, and those of what is left of the timings, make the whole.
-- Assumes nothing.
use native.Mathlib.Omega.{arith}
use borrow.Author.Rules.{rules}
use Rattle.histogram.proofs.Counts.{none-counted, room-for-one, one_more, all-counted}
use Rattle.histogram.proofs.counts_of.Goals as goal

pub loop-timing-init : goal.loop-timing-init
loop-timing-init c = (search rules, none-counted _)

pub overflow_add-counts : goal.overflow_add-counts
overflow_add-counts c =
    let l = c.loop-timing in
    let room = room-for-one c.args.timings.now l.counts l.timing-index l.invariant.1 c.loop-timing-test.true in
    rw c.bin.ensures (record { fits = omega (arith, room, c.requires) })

pub loop-timing-preserved : goal.loop-timing-preserved
loop-timing-preserved c =
    let l = c.loop-timing in
    (search rules, one_more _ l.counts _ l.invariant.1 l.invariant.0 c.loop-timing-test.true _ c.bin.ensures)

pub returns : goal.returns
returns c = all-counted _ _ _ c.loop-timing.invariant.1 c.loop-timing.invariant.0 c.loop-timing-test.false
