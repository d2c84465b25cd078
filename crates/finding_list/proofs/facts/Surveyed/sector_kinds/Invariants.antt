-- `finding_list::facts::Surveyed::sector_kinds` meets its contract: the findings of the kinds before k, and those of kind k at the sectors
-- before one. Assumes nothing.
use Prim.Native.Nat.{◌+◌}
use Rattle.finding_list.specs.SurveyContracts.{ListedBefore, LookedBefore}
use Rattle.finding_list.proofs.facts.Surveyed.sector_kinds.Given as goal

abbrev pub invariant-loop-k : goal.invariant-loop-k
invariant-loop-k l = ListedBefore l.self (6 + l.k) l.numbers l.to

abbrev pub invariant-loop-s : goal.invariant-loop-s
invariant-loop-s l = LookedBefore l.self (6 + l.k) l.s-index l.numbers l.to
