-- None of the first tracks stands before itself. Assumes nothing.
use Rattle.std.proofs.Common.{◌≡◌, ◌<◌, sym, ◌∙◌, arith, refl}
use Rattle.disk_tracks.specs.Given.{some, tracks_in}
use Rattle.disk_tracks.specs.Judgement.{some_twice}
use Rattle.disk_tracks.proofs.Some.{some_hit, none_more}
use Rattle.disk_tracks.proofs.Chunks.{is_track}
use Rattle.disk_tracks.proofs.some_twice.Goals as goal

pub loop-i-init : goal.loop-i-init
unfolding some
loop-i-init c = refl

pub returns-then-is_before : goal.returns-then-is_before
unfolding some_twice
returns-then-is_before c =
    let i = c.loop-i.i in
    let h : i < tracks_in c.args.tracks.now = omega (arith, c.as_chunks.ensures.front_len, c.loop-i-test.true) in
    let t = is_track c.args.tracks.now i c.as_chunks.ensures.front h in
    sym (some_hit _ _ i h (rw (t.track, t.side) at (sym c.is_before.ensures ∙ c.if-is_before.true)))

pub loop-i-preserved : goal.loop-i-preserved
loop-i-preserved c =
    let i = c.loop-i.i in
    let t = is_track c.args.tracks.now i c.as_chunks.ensures.front (omega (arith, c.as_chunks.ensures.front_len, c.loop-i-test.true)) in
    none_more _ _ c.loop-i.invariant (rw (t.track, t.side) at (sym c.is_before.ensures ∙ c.if-is_before.false))

pub returns : goal.returns
unfolding some_twice
returns c =
    let e : c.loop-i.i ≡ tracks_in c.args.tracks.now = omega (arith, c.as_chunks.ensures.front_len, c.loop-i.auto.i-end, c.loop-i-test.false) in
    rw e at (sym c.loop-i.invariant)
