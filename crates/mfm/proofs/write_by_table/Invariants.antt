-- `mfm::write_by_table` meets its contract: after i turns the first i bytes are coded, and the rest is as it was. Assumes nothing.
use Prim.Native.Nat.{◌%◌}
use mathlib.Core.Bool.{cond}
use Rattle.mfm.proofs.Coder.{Coded}
use Rattle.mfm.proofs.write_by_table.Given as goal

abbrev pub invariant-loop-i : goal.invariant-loop-i
invariant-loop-i l = Coded l.table l.bytes l.initial.cells (cond l.before 1 0) l.cells (l.last % 2) l.i
