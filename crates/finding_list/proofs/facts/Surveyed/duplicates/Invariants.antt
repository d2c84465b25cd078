-- `finding_list::facts::Surveyed::duplicates` meets its contract: DSN at the sectors before i. Assumes nothing.
use Rattle.finding_list.specs.SurveyContracts.{LookedBefore}
use Rattle.finding_list.proofs.facts.Surveyed.duplicates.Given as goal

abbrev pub invariant-loop-i : goal.invariant-loop-i
invariant-loop-i l = LookedBefore l.self 5 l.i l.numbers l.to
