-- `flux_file::finish` meets its contract. Assumes nothing.
use Rattle.flux_file.proofs.Whole.{given-timings, whole_of_answer}
use Rattle.flux_file.proofs.finish.Goals as goal

pub returns-else-count-eq0-clause-file : goal.returns-else-count-eq0-clause-file
returns-else-count-eq0-clause-file c = whole_of_answer _ (given-timings _ c.in-AllTimings.is c.count_taken.ensures c.in_ok-count-in-AllTimings.was c.if-count-eq0.false)
