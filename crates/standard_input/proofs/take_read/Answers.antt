-- `standard_input::take_read` meets its contract. Assumes nothing.
use mir.Facts.{to_z-of_z}
use Rattle.standard_input.proofs.Reading.{taken}
use Rattle.standard_input.proofs.take_read.Goals as goal

pub returns : goal.returns
returns c =
    let start = c in let both = taken c.args.got c.args.room.now (to_z-of_z c.ranges.got) c.count.ensures.value c.at_end.ensures in record { count = both.0; ended = both.1 }
