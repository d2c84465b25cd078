-- `track_writer::count_pieces` meets its contract. Assumes nothing.
use Prim.Native.Nat.{◌+◌, ◌≤◌}
use mathlib.Core.Path.{◌≡◌}
use lib.ListN.{drop}
use Rattle.track_writer.proofs.Laws.{piece_count}
use Rattle.track_writer.proofs.count_pieces.Given as goal

abbrev pub invariant-loop-byte : goal.invariant-loop-byte
invariant-loop-byte l = (l.count ≤ 8194) × (l.count + piece_count (drop l.byte-index l.list) ≡ piece_count l.list)
