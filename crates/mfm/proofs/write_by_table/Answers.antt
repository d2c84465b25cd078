-- `mfm::write_by_table` meets its contract: after i turns the first i bytes are coded, and the rest is as it was. Assumes nothing.
use Prim.Native.Nat.{◌/◌, ◌%◌}
use mathlib.Core.Path.{◌≡◌, refl}
use native.Mathlib.Omega.{arith}
use lib.ListN.{length, get_or}
use Rattle.mfm.proofs.Coder.{coded-more, coded-all}
use Rattle.mfm.proofs.write_by_table.Goals as goal

pub loop-i-preserved : goal.loop-i-preserved
loop-i-preserved c =
    let a = c.args in
    let w = c.entry.result in
    let high : get_or c.to_be_bytes.result 0 0 ≡ w / 256 = rw c.to_be_bytes.ensures (omega (arith, c.entry.type_inv)) in
    let low : get_or c.to_be_bytes.result 1 0 ≡ w % 256 = rw c.to_be_bytes.ensures refl in
    rw (high, low)
    (coded-more a.table.now a.bytes.now a.cells.now _ c.loop-i.cells _ c.loop-i.i w c.loop-i.invariant c.loop-i-test.true c.requires c.entry.ensures)

pub returns : goal.returns
returns c =
    let l = c.loop-i in
    let a = c.args in
    let e : l.i ≡ length a.bytes.now = omega arith in
    coded-all a.table.now a.bytes.now a.cells.now _ _ _ _ l.invariant e
