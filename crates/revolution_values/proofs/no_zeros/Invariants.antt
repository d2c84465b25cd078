-- `revolution_values::no_zeros` meets its contract: none of the first i values is a 0. Assumes nothing.
use Rattle.std.proofs.Common.{◌*◌, ◌≡◌, drop}
use Rattle.revolution_values.specs.PrivateContracts.{no_zeros}
use Rattle.revolution_values.proofs.no_zeros.Given as goal

abbrev pub invariant-loop-i : goal.invariant-loop-i
invariant-loop-i l = no_zeros (drop (2 * l.i) l.values) ≡ no_zeros l.values
