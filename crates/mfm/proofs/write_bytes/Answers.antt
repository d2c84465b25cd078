-- `mfm::write_bytes` meets its contract: after i turns the first i bytes are decoded, and the rest is as it was. Assumes nothing.
use Prim.Native.Nat.{ℕ, ◌+◌, ◌*◌, ◌/◌, ◌<◌}
use mathlib.Core.Path.{◌≡◌, refl, ap₂, ◌∙◌}
use native.Mathlib.Omega.{arith}
use lib.ListN.{length}
use Rattle.basis.specs.Lists.{listed}
use Rattle.basis.proofs.Lists.{listed_more}
use Rattle.mfm.specs.Coding.{decoded_byte, decoded}
use Rattle.mfm.proofs.Decoder.{by-nibbles}
use Rattle.mfm.proofs.RoundTrip.{length-decoded}
use Rattle.mfm.proofs.write_bytes.Goals as goal

pub loop-i-init : goal.loop-i-init
unfolding listed
loop-i-init c = refl

pub loop-i-preserved : goal.loop-i-preserved
loop-i-preserved c =
    let a = c.args in
    let inv = c.loop-i.invariant in
    let h : c.loop-i.i < length a.bytes.now = omega arith in
    let v = ap₂ (λ (x y : ℕ). x * 16 + y) c.nibble.ensures.0 c.nibble-in-loop-i.ensures.0 ∙ by-nibbles a.cells.now c.loop-i.i in
    listed_more (decoded_byte a.cells.now) 0 c.loop-i.i _ a.bytes.now _ inv h v

pub returns : goal.returns
unfolding decoded
returns c =
    let l = c.loop-i in
    let a = c.args in
    let e : l.i ≡ length a.cells.now / 2 = omega arith in
    rw (length-decoded a.cells.now, ← e) l.invariant
