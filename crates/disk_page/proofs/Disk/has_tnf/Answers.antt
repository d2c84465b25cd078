-- None of the first tracks is the one and has TNF. Assumes nothing.
use Rattle.std.proofs.Common.{◌≡◌, ◌<◌, sym, ◌∙◌, refl, arith}
use Rattle.disk_tracks.specs.Given.{some, before, tracks_in}
use Rattle.disk_tracks.proofs.Some.{some_hit, none_more}
use Rattle.disk_tracks.proofs.Sums.{before_more}
use Rattle.disk_tracks.proofs.Chunks.{is_track}
use Rattle.disk_page.specs.Ranges.{has_tnf}
use Rattle.disk_page.proofs.Tracks.{within, is-here, tnf-here, tnf-elsewhere}
use Rattle.disk_page.proofs.Disk.has_tnf.Goals as goal
use Rattle.disk_page.proofs.Disk.has_tnf.Goals.{else-eq-via-then-eq+else-some_tnf, else-eq-via-else-eq}

pub loop-given_track-init : goal.loop-given_track-init
unfolding some before
loop-given_track-init c = (refl, refl)

pub some_tnf-requires : goal.some_tnf-requires
some_tnf-requires c =
    let i = c.loop-given_track.given_track-index in
    let h : i < tracks_in c.args.self.now.tracks.now = omega (arith, c.as_chunks.ensures.front_len, c.loop-given_track-test.true) in
    let t = is_track c.args.self.now.tracks.now i c.as_chunks.ensures.front h in
    within c.args.self.now.tracks.now c.args.self.now.findings.now i c.args.self.now.whole c.loop-given_track.invariant.0 t.own h

pub returns-then-some_tnf : goal.returns-then-some_tnf
unfolding has_tnf
returns-then-some_tnf c =
    let i = c.loop-given_track.given_track-index in
    let h : i < tracks_in c.args.self.now.tracks.now = omega (arith, c.as_chunks.ensures.front_len, c.loop-given_track-test.true) in
    let t = is_track c.args.self.now.tracks.now i c.as_chunks.ensures.front h in
    let here = is-here c.args.self.now.tracks.now c.args.self.now.findings.now c.args.side c.args.track i t c.eq.ensures c.if-eq.true in
    sym (some_hit _ _ i h (tnf-here c.args.self.now.tracks.now c.args.self.now.findings.now c.args.side c.args.track i here c.loop-given_track.invariant.0 t.own (sym c.some_tnf.ensures ∙ c.if-some_tnf.true)))

pub overflow_add-start : goal.overflow_add-start
overflow_add-start c =
    let i = c.loop-given_track.given_track-index in
    let h : i < tracks_in c.args.self.now.tracks.now = omega (arith, c.as_chunks.ensures.front_len, c.loop-given_track-test.true) in
    let t = is_track c.args.self.now.tracks.now i c.as_chunks.ensures.front h in
    let w = within c.args.self.now.tracks.now c.args.self.now.findings.now i c.args.self.now.whole c.loop-given_track.invariant.0 t.own h in
    record { fits = omega (arith, w) }

pub loop-given_track-preserved : goal.loop-given_track-preserved
loop-given_track-preserved c =
    let i = c.loop-given_track.given_track-index in
    let h : i < tracks_in c.args.self.now.tracks.now = omega (arith, c.as_chunks.ensures.front_len, c.loop-given_track-test.true) in
    let t = is_track c.args.self.now.tracks.now i c.as_chunks.ensures.front h in
    let l = c.loop-given_track.invariant in (
      omega (arith, before_more c.args.self.now.tracks.now i, l.0, t.own),
      none_more _ i l.1
          (elim c.else-eq.branch [
            | else-eq-via-then-eq+else-some_tnf w ↦
                tnf-here c.args.self.now.tracks.now c.args.self.now.findings.now c.args.side c.args.track i (is-here c.args.self.now.tracks.now c.args.self.now.findings.now c.args.side c.args.track i t c.eq.ensures w.if-eq.true) l.0 t.own (sym w.some_tnf.ensures ∙ w.if-some_tnf.false)
            | else-eq-via-else-eq w ↦ tnf-elsewhere c.args.self.now.tracks.now c.args.self.now.findings.now c.args.side c.args.track i (is-here c.args.self.now.tracks.now c.args.self.now.findings.now c.args.side c.args.track i t c.eq.ensures w.if-eq.false)
          ]),
    )

pub returns : goal.returns
unfolding has_tnf
returns c =
    let e : c.loop-given_track.given_track-index ≡ tracks_in c.args.self.now.tracks.now = omega (arith, c.as_chunks.ensures.front_len, c.loop-given_track.auto.given_track-index-end, c.loop-given_track-test.false) in
    rw e at (sym c.loop-given_track.invariant.1)
