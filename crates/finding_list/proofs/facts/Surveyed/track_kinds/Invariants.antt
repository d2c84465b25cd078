-- `finding_list::facts::Surveyed::track_kinds` meets its contract: the kinds before k are in the list. Assumes nothing.
use Rattle.finding_list.specs.SurveyContracts.{ListedBefore}
use Rattle.finding_list.proofs.facts.Surveyed.track_kinds.Given as goal

abbrev pub invariant-loop-k : goal.invariant-loop-k
invariant-loop-k l = ListedBefore l.self l.k l.numbers l.to
