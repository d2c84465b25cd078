-- `block_cells::timings_with_border_pulses` meets its contract. Assumes nothing.
use Rattle.std.proofs.Common.{◌≡◌, sym, Err, rules}
use lib.Seq.{length-take-le}
use Rattle.block_cells.proofs.BlockCells.{filled-long, pulses-kept, pulses-counted, never-refused}
use Rattle.block_cells.proofs.timings_with_border_pulses.Goals as goal

pub slice_bounds-count_border_pulses-end : goal.slice_bounds-count_border_pulses-end
slice_bounds-count_border_pulses-end c =
    let e = c.in_ok-count.ensures in
    filled-long _ _ _ c.args.timings.now e.answer e.list c.revolution_timings.auto.timings

pub slice_bounds-count_border_pulses-end-2 : goal.slice_bounds-count_border_pulses-end-2
slice_bounds-count_border_pulses-end-2 c =
    let e = c.in_ok-count.ensures in
    let r = c.revolution_timings in
    sym (length-take-le _ r.new.timings (filled-long _ _ _ c.args.timings.now e.answer e.list r.auto.timings))

pub returns : goal.returns
returns c =
    let e = c.in_ok-count.ensures in
    pulses-counted _ _ _ c.args.timings.now e.list e.answer _ c.in_ok-border_pulses.ensures

pub returns-in_err-count : goal.returns-in_err-count
returns-in_err-count c =
    let same : c.from_residual.result ≡ Err c.in_err-count.field-0.0 = search rules in
    let e = c.in_err-count.ensures in
    rw same (pulses-kept _ _ _ c.args.timings.now e.list e.answer _)

pub returns-in_err-border_pulses : goal.returns-in_err-border_pulses
returns-in_err-border_pulses c =
    let e = c.in_ok-count.ensures in
    absurd (never-refused _ _ _ c.args.timings.now e.list e.answer c.in_err-border_pulses.ensures)
