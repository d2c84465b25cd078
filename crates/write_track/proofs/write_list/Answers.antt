-- `write_track::write_list` meets its contract. Assumes nothing.
use Prim.Native.Nat.{◌/◌}
use mathlib.Core.Path.{sym, ◌∙◌}
use native.Mathlib.Omega.{arith}
use borrow.Author.Tests.{eqb-true, eqb-false}
use lib.Seq.{length-take-le}
use Rattle.write_track.proofs.Cells.{given, too_long}
use Rattle.write_track.proofs.Outputs.{no-track, no-side, no_bytes, too-many-cells, file-made}
use Rattle.write_track.proofs.write_list.Goals as goal

pub returns-then-track-gt83 : goal.returns-then-track-gt83
returns-then-track-gt83 c = no-track _ _ _ c.if-track-gt83.true c.write_refusal.ensures

pub returns-then-side-gt1 : goal.returns-then-side-gt1
returns-then-side-gt1 c = no-side _ _ _ c.if-track-gt83.false c.if-side-gt1.true c.write_refusal-then-side-gt1.ensures

pub returns-then-is_empty : goal.returns-then-is_empty
returns-then-is_empty c =
    no_bytes _ _ _ c.if-track-gt83.false c.if-side-gt1.false (eqb-true _ _ (sym c.is_empty.ensures ∙ c.if-is_empty.true)) c.write_refusal-then-is_empty.ensures

pub slice_bounds-write_file-end : goal.slice_bounds-write_file-end
slice_bounds-write_file-end c =
    let wrote = c.write_track in
    let g = given c.args.list.now c.args.cells.now c.told-cells _ (wrote.ensures.answer, wrote.ensures.buffer) c.in-Ok.is in
    sym (length-take-le _ _ (omega (arith, g.few, g.count_is, wrote.auto.cells, c.told-cells)))

pub shared_ref_as_front-write_file : goal.shared_ref_as_front-write_file
shared_ref_as_front-write_file c =
    let wrote = c.write_track in
    let g = given c.args.list.now c.args.cells.now c.told-cells _ (wrote.ensures.answer, wrote.ensures.buffer) c.in-Ok.is in
    omega (arith, g.few, g.count_is, wrote.auto.cells, c.told-cells)

pub write_file-length-requires-clause-count : goal.write_file-length-requires-clause-count
write_file-length-requires-clause-count c =
    let wrote = c.write_track in
    let g = given c.args.list.now c.args.cells.now c.told-cells _ (wrote.ensures.answer, wrote.ensures.buffer) c.in-Ok.is in
    omega (arith, g.few, g.count_is)

pub returns-in-Ok : goal.returns-in-Ok
returns-in-Ok c =
    let wrote = c.write_track in
    let g = given c.args.list.now c.args.cells.now c.told-cells _ (wrote.ensures.answer, wrote.ensures.buffer) c.in-Ok.is in
    file-made c.args.list.now c.if-track-gt83.false c.if-side-gt1.false (eqb-false _ _ (sym c.is_empty.ensures ∙ c.if-is_empty.false)) g.few g.count_is g.front_is c.write_file-length.ensures

pub returns-in-Err : goal.returns-in-Err
returns-in-Err c =
    let wrote = c.write_track in
    let long = too_long c.args.list.now c.args.cells.now c.told-cells _ (wrote.ensures.answer, wrote.ensures.buffer) c.in-Err.is in
    too-many-cells _ _ _ c.if-track-gt83.false c.if-side-gt1.false (eqb-false _ _ (sym c.is_empty.ensures ∙ c.if-is_empty.false)) long c.write_refusal-in-Err.ensures
