-- `track_file::feed_packed` meets its contract: after each turn what is left of the portion leads to the same end. Assumes nothing.
use Prim.Native.Nat.{◌+◌}
use lib.ListN.{drop}
use Rattle.file_reader.specs.declared.Reader.TheVariants.{PackedCells}
use Rattle.track_file.proofs.Portions.{Fed}
use Rattle.track_file.proofs.feed_packed.Given as goal

abbrev pub invariant-loop-i : goal.invariant-loop-i
invariant-loop-i l = Fed l.portion l.initial.cells (PackedCells l.place l.count l.first) (drop l.i l.portion) l.cells (PackedCells l.place l.count (l.first + l.i))
