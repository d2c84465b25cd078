-- `supercard_pro::Table::some_bad` meets its contract: no revolution so far is bad. Assumes nothing.
use Rattle.supercard_pro.proofs.Revolutions.{NoneBefore}
use Rattle.supercard_pro.proofs.Table.some_bad.Given as goal

abbrev pub invariant-loop-k : goal.invariant-loop-k
invariant-loop-k l = NoneBefore l.self.block.now l.self.revolutions l.k
