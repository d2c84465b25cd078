-- `finding_list::facts::Surveyed::sector_kinds` meets its contract: the findings of the kinds before k, and those of kind k at the sectors
-- before one. Assumes nothing.
use Prim.Native.Nat.{◌+◌}
use native.Mathlib.Omega.{arith}
use mathlib.Core.Path.{refl}
use Rattle.finding_list.proofs.Adding.{look-first, look-put, look-next, look-last, row_is}
use Rattle.finding_list.proofs.facts.Surveyed.sector_kinds.Goals as goal

pub loop-s-init : goal.loop-s-init
loop-s-init c = look-first c.args.self.now (6 + c.loop-k.k) c.loop-k.invariant

pub sector_rule-requires : goal.sector_rule-requires
sector_rule-requires c =
    let survey = c.args.self.now in
    (c.loop-k-test.true, survey.bounded.within c.loop-s.s-index, λ e. survey.lie_apart e c.loop-s.s-index c.loop-s-test.true)

pub put-to-requires : goal.put-to-requires
put-to-requires c =
    let survey = c.args.self.now in
    look-put survey _ (omega arith) (omega (arith, c.loop-k-test.true)) _ _ (row_is survey _ _ c.loop-k-test.true refl c.sector_rule.ensures) c.loop-s.invariant c.loop-s-test.true

pub loop-s-preserved : goal.loop-s-preserved
loop-s-preserved c =
    let survey = c.args.self.now in
    look-next survey _ (omega arith) (omega (arith, c.loop-k-test.true)) _ _ (row_is survey _ _ c.loop-k-test.true refl c.sector_rule.ensures) c.loop-s.invariant c.put-to.ensures

pub loop-k-preserved : goal.loop-k-preserved
loop-k-preserved c = look-last c.args.self.now (6 + c.loop-k.k) (omega arith) (omega (arith, c.loop-k-test.true)) (omega arith) (omega arith) c.loop-s.invariant
