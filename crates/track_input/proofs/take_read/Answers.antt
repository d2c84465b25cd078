-- `track_input::take_read` meets its contract. Assumes nothing.
use mir.Facts.{to_z-of_z}
use Rattle.track_input.proofs.Reading.{taken}
use Rattle.track_input.proofs.take_read.Goals as goal

pub returns : goal.returns
returns g c =
    let start = c in
    let fed = c in let both = taken g.F.Format.steps c.args.reader c.args.got c.args.portion.now c.args.cells.now (to_z-of_z c.ranges.got)
    c.count-count.ensures.value (c.feed-next.ensures.reader, c.feed-next.ensures.cells) c.input_with.ensures in record { input = both.0; cells = both.1 }
