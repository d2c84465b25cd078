-- `finding_list::facts::Surveyed::duplicates` meets its contract: DSN at the sectors before i. Assumes nothing.
use mathlib.Core.Path.{refl}
use native.Mathlib.Omega.{arith}
use Rattle.finding_list.proofs.Adding.{look-first, look-put, look-next, look-last, duplicate-row}
use Rattle.finding_list.proofs.facts.Surveyed.duplicates.Goals as goal

pub loop-i-init : goal.loop-i-init
loop-i-init c = look-first c.args.self.now 5 c.requires

pub put-to-requires : goal.put-to-requires
put-to-requires c =
    let survey = c.args.self.now in
    look-put survey _ (omega arith) (omega arith) _ _ (duplicate-row survey _ c.has_number.ensures) c.loop-i.invariant c.loop-i-test.true

pub loop-i-preserved : goal.loop-i-preserved
loop-i-preserved c =
    let survey = c.args.self.now in
    look-next survey _ (omega arith) (omega arith) _ _ (duplicate-row survey _ c.has_number.ensures) c.loop-i.invariant c.put-to.ensures

pub returns : goal.returns
returns c = look-last c.args.self.now 5 (omega arith) (omega arith) (omega arith) refl c.loop-i.invariant
