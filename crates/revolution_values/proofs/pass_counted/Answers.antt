-- `revolution_values::pass_counted` meets its contract. Assumes nothing.
use Rattle.std.proofs.Common.{arith}
use Rattle.revolution_values.proofs.Passing.{passed-none, pass-from-nothing, pass-from-held, value-few}
use Rattle.revolution_values.proofs.pass_counted.Goals as goal

pub pass_values-requires-in-Some-split_first : goal.pass_values-requires-in-Some-split_first
pass_values-requires-in-Some-split_first c =
    omega (arith, value-few c.pass_value-seen.ensures, c.in-Some-split_first.ensures.cases.1)

pub returns-in-None : goal.returns-in-None
returns-in-None c = pass-from-nothing _ _ c.in-None.is c.pass_values.ensures

pub returns-in-None-split_first : goal.returns-in-None-split_first
returns-in-None-split_first c = passed-none _ _ c.in-None-split_first.ensures.cases

pub returns-in-Some-split_first : goal.returns-in-Some-split_first
returns-in-Some-split_first c =
    rw c.in-Some-split_first.ensures.cases.0
    (pass-from-held _ _ c.in-Some.is c.two_bytes.ensures c.pass_value-seen.ensures c.pass_values-in-Some-split_first.ensures)
