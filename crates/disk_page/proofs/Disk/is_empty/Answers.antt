-- Each of the first tracks has TNF. Assumes nothing.
use Rattle.std.proofs.Common.{not, sym, ap, ◌∙◌, refl, arith, ◌≡◌}
use Rattle.disk_tracks.specs.Given.{some}
use Rattle.disk_tracks.proofs.Some.{some_hit, none_more}
use Rattle.disk_page.specs.Ranges.{is_empty}
use Rattle.disk_page.proofs.Disk.is_empty.Goals as goal

pub loop-track-init : goal.loop-track-init
unfolding some
loop-track-init c = refl

pub returns-then-not-has_tnf : goal.returns-then-not-has_tnf
unfolding is_empty
returns-then-not-has_tnf c = sym (ap not (some_hit _ _ c.loop-track.track c.loop-track-test.true (ap not (sym c.has_tnf.ensures ∙ c.if-not-has_tnf.true))))

pub loop-track-preserved : goal.loop-track-preserved
loop-track-preserved c = none_more _ _ c.loop-track.invariant (ap not (sym c.has_tnf.ensures ∙ c.if-not-has_tnf.false))

pub returns : goal.returns
unfolding is_empty
returns c =
    let e : c.loop-track.track ≡ 80 = omega (arith, c.loop-track.auto.track-end) in
    sym (ap not (rw e at c.loop-track.invariant))
