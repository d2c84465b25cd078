-- `separation::separate_in` meets its contract. Assumes nothing.
use Rattle.separation.proofs.Answered.{too-many-cells, no-room-for-cells, cells-accepted}
use Rattle.separation.proofs.separate_in.Goals as goal

pub returns-then-count-gt-MOST_CELLS : goal.returns-then-count-gt-MOST_CELLS
returns-then-count-gt-MOST_CELLS g c = too-many-cells _ _ _ _ c.in_ok-judge.ensures c.fill-counts.ensures.cells c.if-count-gt-MOST_CELLS.true

pub returns-then-cells-needed : goal.returns-then-cells-needed
returns-then-cells-needed g c =
    no-room-for-cells _ _ _ _ c.in_ok-judge.ensures c.fill-counts.ensures.cells c.if-count-gt-MOST_CELLS.false c.if-cells-needed.true

pub returns : goal.returns
returns g c =
    let e = c.fill-counts.ensures in
    cells-accepted _ _ _ _ c.in_ok-judge.ensures e.cells c.if-count-gt-MOST_CELLS.false c.if-cells-needed.false e.room c.copy.ensures e.border_pulses
