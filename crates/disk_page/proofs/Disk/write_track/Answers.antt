-- Of the first tracks those are written that are the one. Assumes nothing.
use Rattle.std.proofs.Common.{◌≡◌, ◌<◌, ◌*◌, refl, arith}
use Rattle.disk_tracks.specs.Given.{before, tracks_in}
use Rattle.disk_tracks.proofs.Sums.{before_more}
use Rattle.disk_tracks.proofs.Chunks.{is_track}
use Rattle.disk_page.specs.Page.{track_entries}
use Rattle.disk_page.proofs.Steps.{none_joined, more_joined, few_on, same_on, none_on}
use Rattle.disk_page.proofs.Tracks.{within, is-here, entries-here, no-entries}
use Rattle.disk_page.proofs.Disk.write_track.Goals as goal
use Rattle.disk_page.proofs.Disk.write_track.Goals.{then-eq, else-eq}

pub loop-given_track-init : goal.loop-given_track-init
unfolding before
loop-given_track-init c = (refl, none_joined _ _ _)

pub write_findings-requires : goal.write_findings-requires
write_findings-requires c =
    let i = c.loop-given_track.given_track-index in
    let h : i < tracks_in c.args.self.now.tracks.now = omega (arith, c.as_chunks.ensures.front_len, c.loop-given_track-test.true) in
    let t = is_track c.args.self.now.tracks.now i c.as_chunks.ensures.front h in
    let l = c.loop-given_track.invariant in
    let w = within c.args.self.now.tracks.now c.args.self.now.findings.now i c.args.self.now.whole c.loop-given_track.invariant.0 t.own h in
    (c.requires.0, w, omega (arith, c.requires.1, c.args.self.now.whole.few, h, l.1.wrote.place, l.1.wrote.few, t.own))

pub overflow_add-start : goal.overflow_add-start
overflow_add-start c =
    let i = c.loop-given_track.given_track-index in
    let h : i < tracks_in c.args.self.now.tracks.now = omega (arith, c.as_chunks.ensures.front_len, c.loop-given_track-test.true) in
    let t = is_track c.args.self.now.tracks.now i c.as_chunks.ensures.front h in
    let w = within c.args.self.now.tracks.now c.args.self.now.findings.now i c.args.self.now.whole c.loop-given_track.invariant.0 t.own h in
    record { fits = omega (arith, w) }

pub loop-given_track-preserved : goal.loop-given_track-preserved
loop-given_track-preserved c =
    let i = c.loop-given_track.given_track-index in
    let h : i < tracks_in c.args.self.now.tracks.now = omega (arith, c.as_chunks.ensures.front_len, c.loop-given_track-test.true) in
    let t = is_track c.args.self.now.tracks.now i c.as_chunks.ensures.front h in
    let l = c.loop-given_track.invariant in (
      omega (arith, before_more c.args.self.now.tracks.now i, l.0, t.own),
      more_joined {n = 80 * 0x1_0000_0000} _ i l.1
          (elim c.if-eq.branch [
            | then-eq w ↦
                rw w.page-is
                (same_on (entries-here c.args.self.now.tracks.now c.args.self.now.findings.now c.args.side c.args.track i (is-here c.args.self.now.tracks.now c.args.self.now.findings.now c.args.side c.args.track i t c.eq.ensures w.if-eq.true) l.0 t.own) (omega (arith, t.own)) w.write_findings.ensures)
            | else-eq w ↦ rw w.page-is (none_on _ _ (no-entries c.args.self.now.tracks.now c.args.self.now.findings.now c.args.side c.args.track i (is-here c.args.self.now.tracks.now c.args.self.now.findings.now c.args.side c.args.track i t c.eq.ensures w.if-eq.false)))
          ])
          (omega arith),
    )

pub returns : goal.returns
unfolding track_entries
returns c =
    let e : c.loop-given_track.given_track-index ≡ tracks_in c.args.self.now.tracks.now = omega (arith, c.as_chunks.ensures.front_len, c.loop-given_track.auto.given_track-index-end, c.loop-given_track-test.false) in
    few_on (omega (arith, c.args.self.now.whole.few)) (rw e at c.loop-given_track.invariant.1)
