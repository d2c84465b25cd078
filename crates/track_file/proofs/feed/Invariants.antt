-- `track_file::feed` meets its contract: after each turn what is left of the portion leads to the same end. Assumes nothing.
use lib.ListN.{length}
use Rattle.track_file.proofs.Portions.{Fed}
use Rattle.track_file.proofs.feed.Given as goal

abbrev pub invariant-loop-byte : goal.invariant-loop-byte
invariant-loop-byte l = Fed l.initial.rest l.initial.cells l.initial.at l.rest l.cells l.at

abbrev pub decreases-loop-byte : goal.decreases-loop-byte
decreases-loop-byte l = length l.rest
