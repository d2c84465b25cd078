-- `revolution_values::pass_in_turn` meets its contract: what is passed after i values is passed from the start on. Assumes nothing.
use Rattle.revolution_values.proofs.Passing.{AtValue}
use Rattle.revolution_values.proofs.pass_in_turn.Given as goal

abbrev pub invariant-loop-i : goal.invariant-loop-i
invariant-loop-i l = AtValue l.initial.seen.zeros l.initial.seen.count l.initial.seen.out l.values l.initial.list l.seen.zeros l.seen.count l.seen.out l.i l.list
