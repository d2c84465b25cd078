-- None of the first tracks is the one. Assumes nothing.
use Rattle.std.proofs.Common.{◌≡◌, List, ℕ, ◌*◌, length, ◌/◌, ◌<◌, ◌≤◌, sym, ◌∙◌, arith, refl, take}
use Rattle.std.proofs.lemmas.List.{length-take-le}
use Rattle.disk_tracks.specs.Given.{some}
use Rattle.disk_tracks.specs.Judgement.{is_at}
use Rattle.disk_tracks.proofs.Some.{some_hit, none_more}
use Rattle.disk_tracks.proofs.Chunks.{is_track_before}
use Rattle.disk_tracks.proofs.is_before.Goals as goal

-- a place in the rows of the front is one before the end
of-front : {i n : ℕ} (tracks : List ℕ) (end : ℕ) → 3 * end ≤ length tracks → n ≡ length (take (3 * end) tracks) / 3 → i < n → i < end
of-front tracks end w e h = let l = length-take-le (3 * end) tracks w in omega (arith, e, h, l)

pub loop-earlier_track-init : goal.loop-earlier_track-init
unfolding some
loop-earlier_track-init c = refl

pub returns-then-eq : goal.returns-then-eq
unfolding is_at
returns-then-eq c =
    let i = c.loop-earlier_track.earlier_track-index in
    let h : i < c.args.end = of-front c.args.tracks.now c.args.end c.requires c.as_chunks.ensures.front_len c.loop-earlier_track-test.true in
    let t = is_track_before c.args.tracks.now c.args.end i c.as_chunks.ensures.front c.requires h in
    sym (some_hit _ _ i h (rw (t.track, t.side) at (sym c.eq.ensures ∙ c.if-eq.true)))

pub loop-earlier_track-preserved : goal.loop-earlier_track-preserved
unfolding is_at
loop-earlier_track-preserved c =
    let i = c.loop-earlier_track.earlier_track-index in
    let h : i < c.args.end = of-front c.args.tracks.now c.args.end c.requires c.as_chunks.ensures.front_len c.loop-earlier_track-test.true in
    let t = is_track_before c.args.tracks.now c.args.end i c.as_chunks.ensures.front c.requires h in
    none_more _ _ c.loop-earlier_track.invariant (rw (t.track, t.side) at (sym c.eq.ensures ∙ c.if-eq.false))
