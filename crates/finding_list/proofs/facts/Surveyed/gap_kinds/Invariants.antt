-- `finding_list::facts::Surveyed::gap_kinds` meets its contract: k of the last kinds are in the list. Assumes nothing.
use Prim.Native.Nat.{◌+◌}
use Rattle.finding_list.specs.SurveyContracts.{ListedBefore}
use Rattle.finding_list.proofs.facts.Surveyed.gap_kinds.Given as goal

abbrev pub invariant-loop-k : goal.invariant-loop-k
invariant-loop-k l = ListedBefore l.self (19 + l.k) l.numbers l.to
