-- `standard_input::at_end` meets its contract. Assumes nothing.
use Rattle.standard_input.proofs.Reading.{at_end-is_end}
use Rattle.standard_input.proofs.at_end.Goals as goal

pub returns : goal.returns
returns c = at_end-is_end _ c.ranges.got
