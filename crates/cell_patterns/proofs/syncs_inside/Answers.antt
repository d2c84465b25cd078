-- `cell_patterns::syncs_inside` meets its contract. Assumes nothing.
use native.Mathlib.Omega.{arith}
use Rattle.cell_patterns.specs.Cells.{syncs_inside}
use Rattle.cell_patterns.proofs.Syncs.{inside-id, inside_both}
use Rattle.cell_patterns.proofs.syncs_inside.Goals as goal

pub returns-then-s-eq0 : goal.returns-then-s-eq0
unfolding syncs_inside
returns-then-s-eq0 c f round short held near far =
    let s = c.args.s in
    let d = c.layout_of-layout in
    let l = d.result in
    rw (← d.ensures.layout)
    (inside-id l.sync l.mark_length l.id_length f s _
    (c.syncs_between-inside.ensures.1 f l.sync round short (rw (← d.ensures.layout) at held) (omega (arith, d.ensures.sound.id))) c.if-s-eq0.true)

pub returns : goal.returns
unfolding syncs_inside
returns c f round short held near far =
    let s = c.args.s in
    let d = c.layout_of-layout in
    let l = d.result in
    rw (← d.ensures.layout)
    (inside_both l.sync l.mark_length l.id_length f s _
    (c.syncs_between-inside.ensures.1 f l.sync round short (rw (← d.ensures.layout) at held) (omega (arith, d.ensures.sound.id)))
    _ c.if-s-eq0.false
    (c.syncs_between.ensures.1 f l.sync round short (rw (← d.ensures.layout) at held) (omega arith)))
