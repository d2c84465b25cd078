-- `track_writer::write_list` meets its contract. Assumes nothing.
use Rattle.track_writer.proofs.Laws.{Wrote}
use Rattle.track_writer.proofs.write_list.Given as goal

abbrev pub invariant-loop-byte : goal.invariant-loop-byte
invariant-loop-byte l = Wrote l.list l.initial.cells l.writer l.cells l.at l.byte-index
