-- `sector_records::make_maps` meets its contract. Assumes nothing.
use Prim.Native.Nat.{ℕ, ◌+◌, ◌/◌, ◌<◌}
use native.Mathlib.Omega.{arith}
use lib.ListN.{length-replicate}
use Rattle.cells.proofs.Places.{cell-lt}
use Rattle.cell_words.specs.Tests.{one_at, stands_at}
use Rattle.cell_words.proofs.Words.{holds-less, holds_same}
use Rattle.sector_records.specs.Marks.{word_mark_at}
use Rattle.sector_records.specs.PrivateContracts.{cells_on}
use Rattle.sector_records.proofs.Marks.{stands-mark, sync-small}
use Rattle.sector_records.proofs.make_maps.Goals as goal

pub returns : goal.returns
returns c =
    let a = c.args in
    let f = cells_on a.cells in
    let n = a.cells.count in
    let long = length-replicate {A = ℕ} 2116 0 in
    let o = c.load.ensures long (omega arith) in
    let e = c.layout_of-layout.ensures.layout in
    let small : c.layout_of-layout.result.sync < 0x1_0000 = rw e (sync-small a.density) in
    let y = c.word_map.ensures f (cell-lt a.cells.bytes.now n) (holds-less (one_at f) _ (n / 64 + 68) (n / 64 + 64 + 3) o.1 (omega arith)) (omega arith) small long in
    record { ones = o.1; syncs_are = rw (← e) (holds_same (stands_at f _) (word_mark_at f _) (stands-mark f _) _ _ y.1) }
