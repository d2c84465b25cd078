-- None of the first findings is TNF. Assumes nothing.
use Rattle.std.proofs.Common.{sym, refl, arith}
use borrow.Author.Tests.{eq-eqb, ne_eqb}
use Rattle.disk_tracks.specs.Given.{some}
use Rattle.disk_tracks.proofs.Some.{some_hit, none_more}
use Rattle.disk_page.proofs.Disk.some_tnf.Goals as goal

pub loop-k-init : goal.loop-k-init
unfolding some
loop-k-init c = refl

pub returns-then-self-start-eq4 : goal.returns-then-self-start-eq4
returns-then-self-start-eq4 c = sym (some_hit _ _ c.loop-k.k (omega arith) (eq-eqb _ _ c.if-self-start-eq4.true))

pub loop-k-preserved : goal.loop-k-preserved
loop-k-preserved c = none_more _ _ c.loop-k.invariant (ne_eqb _ _ c.if-self-start-eq4.false)
