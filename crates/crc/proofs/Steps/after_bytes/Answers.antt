-- `Steps::after_bytes` meets its contract: what is left of the bytes takes the word so far to the end. Assumes nothing.
use Prim.Native.Nat.{◌*◌, ◌/◌}
use mathlib.Core.Path.{◌≡◌, sym, ◌∙◌}
use native.Mathlib.Omega.{arith}
use lib.ListN.{length}
use Rattle.crc.proofs.Bytes.{chunk-turn}
use Rattle.crc.proofs.Steps.after_bytes.Goals as goal

pub loop-four-preserved : goal.loop-four-preserved
loop-four-preserved c =
    let l = c.loop-four in
    rw c.after_four-so_far.ensures (sym (chunk-turn l.so_far c.args.bytes.now _ l.four-index c.as_chunks.ensures.front (omega (arith, c.loop-four-test.true, c.as_chunks.ensures.front_len))) ∙ l.invariant)

pub returns : goal.returns
returns c =
    let l = c.loop-four in
    let e : length c.args.bytes.now / 4 * 4 ≡ 4 * l.four-index = omega (arith, c.loop-four-test.false, c.as_chunks.ensures.front_len) in
    c.after_rest.ensures ∙ rw (c.as_chunks.ensures.back, e) l.invariant
