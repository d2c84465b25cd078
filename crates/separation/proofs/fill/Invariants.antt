-- `separation::fill` meets its contract: the cells and the border pulses passed are counted, and the front of the room is the cells. Assumes nothing.
use Rattle.separation.proofs.BorderPulses.{Passed}
use Rattle.separation.proofs.Writing.{Filled}
use Rattle.separation.proofs.fill.Given as goal

abbrev pub invariant-loop-timing : goal.invariant-loop-timing
invariant-loop-timing g l =
    Filled g.W.BitWindow.HALF l.timings l.initial.room l.room l.count l.separator.residual l.timing-index
    × Passed g.W.BitWindow.HALF l.timings l.border_pulses l.separator.residual l.timing-index
