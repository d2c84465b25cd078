-- The search from the track at hand on finds what the whole search does. Assumes nothing.
use Rattle.std.proofs.Common.{◌≡◌, not, refl, sym, ap, ◌∙◌, arith}
use Rattle.basis.proofs.Search.{least_step, least-hit, least-end}
use Rattle.disk_page.specs.Ranges.{last_of}
use Rattle.disk_page.proofs.Disk.last_of.Goals as goal

pub loop-last-init : goal.loop-last-init
unfolding last_of
loop-last-init c = refl

pub returns-then-not-has_tnf : goal.returns-then-not-has_tnf
returns-then-not-has_tnf c = sym (least-hit _ _ 84 c.loop-last-test.true (ap not (sym c.has_tnf.ensures ∙ c.if-not-has_tnf.true))) ∙ c.loop-last.invariant

pub loop-last-preserved : goal.loop-last-preserved
loop-last-preserved c = sym (least_step _ _ 84 c.loop-last-test.true (ap not (sym c.has_tnf.ensures ∙ c.if-not-has_tnf.false))) ∙ c.loop-last.invariant

pub returns : goal.returns
returns c =
    let e : c.loop-last.last ≡ 84 = omega (arith, c.loop-last.auto.last-end) in
    sym e ∙ sym (least-end _ _ 84 (omega arith)) ∙ c.loop-last.invariant
