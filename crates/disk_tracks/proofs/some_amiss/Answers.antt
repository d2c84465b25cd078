-- No finding of the first tracks is amiss. Assumes nothing.
use Rattle.std.proofs.Common.{◌≡◌, true, List, ℕ, ◌+◌, ◌<◌, ◌≤◌, sym, ◌∙◌, arith, refl}
use Rattle.disk_tracks.specs.Given.{some, own_at, before, tracks_in, findings_in}
use Rattle.disk_tracks.specs.Judgement.{add_up, some_amiss}
use Rattle.disk_tracks.proofs.Some.{some_hit, none_more}
use Rattle.disk_tracks.proofs.Chunks.{is_track}
use Rattle.disk_tracks.proofs.some_amiss.Goals as goal
use Rattle.disk_tracks.proofs.Branches.{added-up}
use Rattle.disk_tracks.proofs.Sums.{before_more, own-within}

-- the findings of the track at hand stand in the list
within : {start own : ℕ} (tracks findings : List ℕ) (i : ℕ) → add_up tracks findings ≡ true → start ≡ before tracks i → own ≡ own_at tracks i → i < tracks_in tracks
    → start + own ≤ findings_in findings
within tracks findings i a s o h = omega (arith, own-within tracks i (tracks_in tracks) h, (added-up tracks findings a).sum)

pub loop-track-init : goal.loop-track-init
unfolding some before
loop-track-init c = (refl, refl)

pub track_amiss-requires : goal.track_amiss-requires
track_amiss-requires c =
    let i = c.loop-track.track-index in
    let h : i < tracks_in c.args.tracks.now = omega (arith, c.as_chunks.ensures.front_len, c.loop-track-test.true) in
    let t = is_track c.args.tracks.now i c.as_chunks.ensures.front h in
    within c.args.tracks.now c.args.findings.now i c.requires c.loop-track.invariant.0 t.own h

pub returns-then-track_amiss : goal.returns-then-track_amiss
unfolding some_amiss
returns-then-track_amiss c =
    let i = c.loop-track.track-index in
    let h : i < tracks_in c.args.tracks.now = omega (arith, c.as_chunks.ensures.front_len, c.loop-track-test.true) in
    let t = is_track c.args.tracks.now i c.as_chunks.ensures.front h in
    sym (some_hit _ _ i h (rw (t.track, t.own, c.loop-track.invariant.0) at (sym c.track_amiss.ensures ∙ c.if-track_amiss.true)))

pub overflow_add-start : goal.overflow_add-start
overflow_add-start c =
    let i = c.loop-track.track-index in
    let h : i < tracks_in c.args.tracks.now = omega (arith, c.as_chunks.ensures.front_len, c.loop-track-test.true) in
    let t = is_track c.args.tracks.now i c.as_chunks.ensures.front h in
    omega (arith, within c.args.tracks.now c.args.findings.now i c.requires c.loop-track.invariant.0 t.own h)

pub loop-track-preserved : goal.loop-track-preserved
loop-track-preserved c =
    let i = c.loop-track.track-index in
    let t = is_track c.args.tracks.now i c.as_chunks.ensures.front (omega (arith, c.as_chunks.ensures.front_len, c.loop-track-test.true)) in (
      omega (arith, before_more c.args.tracks.now i, c.loop-track.invariant.0, t.own),
      none_more _ _ c.loop-track.invariant.1 (rw (t.track, t.own, c.loop-track.invariant.0) at (sym c.track_amiss.ensures ∙ c.if-track_amiss.false)),
    )

pub returns : goal.returns
unfolding some_amiss
returns c =
    let e : c.loop-track.track-index ≡ tracks_in c.args.tracks.now = omega (arith, c.as_chunks.ensures.front_len, c.loop-track.auto.track-index-end, c.loop-track-test.false) in
    rw e at (sym c.loop-track.invariant.1)
