-- `flux_conversion::convert` meets its contract. Assumes nothing.
use Rattle.flux_conversion.proofs.Whole.{told-file}
use Rattle.flux_conversion.proofs.Ending.{few-finished}
use Rattle.flux_conversion.proofs.convert.Goals as goal

pub convert_read-requires : goal.convert_read-requires
convert_read-requires c = few-finished _ c.finish.ensures.answer

pub returns : goal.returns
returns c =
    let finish = c.finish.ensures in let both = told-file _ _ _ _ _ _ finish.file (c.convert_read.ensures.answer, c.convert_read.ensures.out) _ finish.answer in record { answer = both.0; out = both.1.0; file = both.1.1 }
