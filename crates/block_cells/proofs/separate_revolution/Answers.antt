-- `block_cells::separate_revolution` meets its contract. Assumes nothing.
use Rattle.std.proofs.Common.{◌≡◌, sym, Err, arith, rules}
use lib.Seq.{length-take-le}
use Rattle.block_cells.proofs.BlockCells.{block_refused, filled-long, block-separated}
use Rattle.block_cells.proofs.separate_revolution.Goals as goal

pub slice_bounds-timings-end : goal.slice_bounds-timings-end
slice_bounds-timings-end c =
    let e = c.in_ok-count.ensures in
    filled-long _ _ _ c.room_for_timings-timings.result e.answer e.list c.revolution_timings.auto.timings

pub slice_bounds-separate-end : goal.slice_bounds-separate-end
slice_bounds-separate-end c =
    let e = c.in_ok-count.ensures in
    let r = c.revolution_timings in
    sym (length-take-le _ r.new.timings (filled-long _ _ _ c.room_for_timings-timings.result e.answer e.list r.auto.timings))

pub returns : goal.returns
returns c =
    let e = c.in_ok-count.ensures in
    let s = c.separate.ensures in
    block-separated _ _ _ c.room_for_timings-timings.result e.answer e.list _ _ s.answer s.buffer s.border_pulses

pub returns-in_err-count : goal.returns-in_err-count
returns-in_err-count c =
    let same : c.from_residual.result ≡ Err c.in_err-count.field-0.0 = search rules in
    rw same (block_refused _ _ _ _ (omega (arith, c.room_for_timings-timings.ensures)) c.in_err-count.ensures.answer _ _)
