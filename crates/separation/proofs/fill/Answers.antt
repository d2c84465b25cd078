-- `separation::fill` meets its contract: the cells and the border pulses passed are counted, and the front of the room is the cells. Assumes nothing.
use mathlib.Core.Path.{sym, ◌∙◌, ap}
use native.Mathlib.Omega.{arith}
use borrow.Author.Rules.{rules}
use lib.ListN.{length}
use mir.Syntax.{w32}
use mir.Val.{SFits}
use mir.Facts.{to_z-of_z}
use Rattle.separation.proofs.BorderPulses.{none_passed, one-passed, all-passed}
use Rattle.separation.proofs.Walk.{turn, no-refusal, walk-small, walk_end}
use Rattle.separation.proofs.Writing.{front-cleared, filled-start, filled_next, filled-end}
use Rattle.separator.proofs.Residual.{kept-usable}
use Rattle.separation.proofs.fill.Goals.{in-Ok, in_default}
use Rattle.separation.proofs.fill.Goals as goal

pub loop-timing-init : goal.loop-timing-init
loop-timing-init g c =
    (filled-start g.met.W.BitWindow.is_half _ c.new-separator.ensures (front-cleared 16384 c.args.room.now (search rules) c.clear.ensures), none_passed _ c.new-separator.ensures)

pub put_cells-requires : goal.put_cells-requires
put_cells-requires g c =
    let l = c.loop-timing in
    let w = l.invariant.0.walked in
    let k = kept-usable _ _ w.kept in
    let t = turn g.W.BitWindow.HALF c.args.timings.now l.timing-index l.separator.residual c.requires.1 c.loop-timing-test.true w.kept _ (c.step_on.ensures.answer k) c.in-Ok.is (c.step_on.ensures.state k) in
    omega (arith, c.requires.0, w.small, walk-small g.met.W.BitWindow.is_half w t, t.here)

pub loop-timing-preserved : goal.loop-timing-preserved
loop-timing-preserved g c =
    let l = c.loop-timing in
    let w = l.invariant.0.walked in
    let k = kept-usable _ _ w.kept in
    let e = c.step_on.ensures in
    elim c.match-step_on.branch [
      | in-Ok b ↦
          let t = turn g.W.BitWindow.HALF c.args.timings.now l.timing-index l.separator.residual c.requires.1 c.loop-timing-test.true w.kept _ (e.answer k) b.in-Ok.is (e.state k) in
          let fits : SFits w32 b.in-Ok.step.offset = record { sfits = omega arith } in
          rw (b.room-is, b.count-is, b.border_pulses-is) (
            filled_next g.met.W.BitWindow.is_half l.invariant.0 t _ b.put_cells.ensures b.put_cells.auto.cells,
            one-passed l.invariant.1 w.kept t (b.in-Ok.ensures.offset k) (rw (to_z-of_z fits) at b.border_pulses.ensures),
          )
      | in_default b ↦ absurd (no-refusal g.W.BitWindow.HALF c.args.timings.now l.timing-index l.separator.residual c.requires.1 c.loop-timing-test.true w.kept _ (e.answer k) b.in_default.not-Ok)
    ]

pub returns : goal.returns
returns g c =
    let w = c.loop-timing.invariant in
    record {
      cells = sym (ap length (walk_end w.0.walked c.loop-timing-test.false) ∙ w.0.walked.long);
      border_pulses = all-passed w.1 c.loop-timing-test.false;
      room = λ h. filled-end w.0 c.loop-timing-test.false (search rules) h;
    }
