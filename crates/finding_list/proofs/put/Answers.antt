-- `finding_list::put` meets its contract. Assumes nothing.
use native.Mathlib.Omega.{arith}
use Rattle.finding_list.specs.Findings.{found_by}
use Rattle.finding_list.proofs.Numbers.{added_none, added-one}
use Rattle.finding_list.proofs.put.Goals as goal

pub bounds-numbers-b : goal.bounds-numbers-b
unfolding found_by
bounds-numbers-b c = omega (arith, (rw c.if-row.true at c.requires.2).fits)

pub bounds-numbers-b-then-row : goal.bounds-numbers-b-then-row
unfolding found_by
bounds-numbers-b-then-row c = omega (arith, (rw c.if-row.true at c.requires.2).fits)

pub bounds-numbers-b-then-row-2 : goal.bounds-numbers-b-then-row-2
unfolding found_by
bounds-numbers-b-then-row-2 c = omega (arith, (rw c.if-row.true at c.requires.2).fits)

pub bounds-numbers-b-then-row-3 : goal.bounds-numbers-b-then-row-3
unfolding found_by
bounds-numbers-b-then-row-3 c = omega (arith, (rw c.if-row.true at c.requires.2).fits)

pub returns-then-row : goal.returns-then-row
unfolding found_by
returns-then-row c =
    rw (c.if-row.true, c.level.ensures) (added-one _ (rw c.if-row.true at c.requires.2))

pub returns-else-row : goal.returns-else-row
unfolding found_by
returns-else-row c = rw c.if-row.false (added_none _ c.requires.2)
