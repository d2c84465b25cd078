-- `revolution_values::store_at_once` meets its contract: after i turns the timings of the first i values are stored. Assumes nothing.
use Rattle.revolution_values.proofs.NoZeros.{Stored}
use Rattle.revolution_values.proofs.store_at_once.Given as goal

abbrev pub invariant-loop-i : goal.invariant-loop-i
invariant-loop-i l = Stored l.values l.initial.list l.at l.i l.list
