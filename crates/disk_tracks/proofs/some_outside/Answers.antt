-- None of the first tracks is outside. Assumes nothing.
use Rattle.std.proofs.Common.{◌≡◌, ◌<◌, sym, ◌∙◌, arith, refl}
use Rattle.disk_tracks.specs.Given.{some, tracks_in}
use Rattle.disk_tracks.specs.Judgement.{some_outside}
use Rattle.disk_tracks.proofs.Some.{some_hit, none_more}
use Rattle.disk_tracks.proofs.Chunks.{is_track}
use Rattle.disk_tracks.proofs.some_outside.Goals as goal

pub loop-track-init : goal.loop-track-init
unfolding some
loop-track-init c = refl

pub returns-then-is_outside : goal.returns-then-is_outside
unfolding some_outside
returns-then-is_outside c =
    let i = c.loop-track.track-index in
    let h : i < tracks_in c.args.tracks.now = omega (arith, c.as_chunks.ensures.front_len, c.loop-track-test.true) in
    let t = is_track c.args.tracks.now i c.as_chunks.ensures.front h in
    sym (some_hit _ _ i h (rw (t.track, t.side) at (sym c.is_outside.ensures ∙ c.if-is_outside.true)))

pub loop-track-preserved : goal.loop-track-preserved
loop-track-preserved c =
    let i = c.loop-track.track-index in
    let t = is_track c.args.tracks.now i c.as_chunks.ensures.front (omega (arith, c.as_chunks.ensures.front_len, c.loop-track-test.true)) in
    none_more _ _ c.loop-track.invariant (rw (t.track, t.side) at (sym c.is_outside.ensures ∙ c.if-is_outside.false))

pub returns : goal.returns
unfolding some_outside
returns c =
    let e : c.loop-track.track-index ≡ tracks_in c.args.tracks.now = omega (arith, c.as_chunks.ensures.front_len, c.loop-track.auto.track-index-end, c.loop-track-test.false) in
    rw e at (sym c.loop-track.invariant)
