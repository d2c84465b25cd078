-- `sectors::write_data` meets its contract: the bytes before i are decoded. Assumes nothing.
use Rattle.std.proofs.Common.{◌≡◌, ℕ, ◌<◌, get_or}
use Rattle.cells.specs.CellsAndBytes.{cell}
use Rattle.sector_records.specs.Sectors.{byte_from}
use Rattle.sectors.proofs.write_data.Given as goal

abbrev pub invariant-loop-i : goal.invariant-loop-i
invariant-loop-i l = (k : ℕ) → k < l.i → get_or l.buffer k 0 ≡ byte_from (cell l.cells.bytes.now l.cells.count) l.p k
