-- None of the first findings is amiss. Assumes nothing.
use Rattle.std.proofs.Common.{sym, ◌∙◌, arith, refl}
use Rattle.disk_tracks.specs.Given.{some}
use Rattle.disk_tracks.proofs.Some.{some_hit, none_more}
use Rattle.disk_tracks.proofs.track_amiss.Goals as goal

pub loop-k-init : goal.loop-k-init
unfolding some
loop-k-init c = refl

pub returns-then-is_amiss_at : goal.returns-then-is_amiss_at
returns-then-is_amiss_at c = sym (some_hit _ _ c.loop-k.k (omega arith) (sym c.is_amiss_at.ensures ∙ c.if-is_amiss_at.true))

pub loop-k-preserved : goal.loop-k-preserved
loop-k-preserved c = none_more _ _ c.loop-k.invariant (sym c.is_amiss_at.ensures ∙ c.if-is_amiss_at.false)
