-- `sector_records::check_word` meets its contract: after i turns 4 i bytes are decoded. Assumes nothing.
use Prim.Native.Nat.{◌*◌}
use mathlib.Core.Path.{◌≡◌}
use lib.ListN.{length}
use Rattle.sector_records.specs.PrivateContracts.{cells_on}
use Rattle.sector_records.proofs.Checks.{Decoded}
use Rattle.sector_records.proofs.check_word.Given as goal

abbrev pub invariant-loop-i : goal.invariant-loop-i
invariant-loop-i l = record { long : length l.decoded ≡ 1028; decoded : Decoded (cells_on l.cells) l.p l.decoded (4 * l.i) }
