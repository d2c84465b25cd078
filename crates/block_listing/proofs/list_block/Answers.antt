-- `block_listing::list_block` meets its contract. Assumes nothing.
use Rattle.std.proofs.Common.{rules}
use Rattle.block_listing.proofs.Listed.{cells-written, refusal-written}
use Rattle.block_listing.proofs.list_block.Goals as goal

pub returns-in-Ok : goal.returns-in-Ok
returns-in-Ok c =
    let s = c.separate_revolution-separated.ensures in
    let l = c.list_track.ensures in
    cells-written _ _ _ _ _ c.room_for_cells-cells.ensures c.in-Ok.is s.answer s.buffer c.args.out.now l.answer l.few l.out

pub returns-in-Err : goal.returns-in-Err
returns-in-Err c =
    let s = c.separate_revolution-separated.ensures in
    let l = c.refused_line.ensures in
    refusal-written _ _ _ _ _ c.room_for_cells-cells.ensures c.in-Err.is s.answer s.buffer c.number.ensures (search rules) c.args.out.now l.answer l.out
