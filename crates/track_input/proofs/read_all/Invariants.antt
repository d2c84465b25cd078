-- `track_input::read_all` meets its contract: the reads so far led to the reader and the cells. Assumes nothing but the contract of a
-- reader's `read`.
use Rattle.track_input.proofs.Reading.{Reading}
use Rattle.track_input.proofs.read_all.Given as goal

abbrev pub invariant-loop : goal.invariant-loop
invariant-loop g l = Reading g.F.Format.steps l.initial.at l.initial.cells l.at l.cells l.counter
