-- `finding_list::facts::Surveyed::gap_kinds` meets its contract: k of the last kinds are in the list. Assumes nothing.
use native.Mathlib.Omega.{arith}
use Rattle.finding_list.proofs.Adding.{once-put, once-next, gaps-found, gaps-fit}
use Rattle.finding_list.proofs.facts.Surveyed.gap_kinds.Goals as goal

pub put-to-requires : goal.put-to-requires
put-to-requires c =
    let survey = c.args.self.now in
    once-put survey _ _ (gaps-found survey _ c.gap_rule.ensures) c.loop-k.invariant (omega (arith, c.loop-k-test.true)) (gaps-fit survey _ c.gap_rule.ensures)

pub loop-k-preserved : goal.loop-k-preserved
loop-k-preserved c =
    let survey = c.args.self.now in
    once-next survey _ _ (gaps-found survey _ c.gap_rule.ensures) c.loop-k.invariant (omega arith) c.put-to.ensures
