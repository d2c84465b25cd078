-- `standard_input::read_on` meets its contract. Assumes nothing but the contract of a reader's `read`.
use Prim.Native.Nat.{◌-◌}
use lib.ListN.{length, take}
use Rattle.standard_input.proofs.Reading.{AtByte}
use Rattle.standard_input.proofs.read_on.Given as goal

abbrev pub invariant-loop-count : goal.invariant-loop-count
invariant-loop-count g l = AtByte (take l.from l.initial.room) l.initial.room l.room l.count

abbrev pub decreases-loop-count : goal.decreases-loop-count
decreases-loop-count g l = length l.initial.room - l.count
