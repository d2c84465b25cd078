-- `crc::after_rest` meets its contract: what is left of the bytes takes the word so far to the end. Assumes nothing.
use mathlib.Core.Path.{sym, ◌∙◌}
use Rattle.crc.proofs.Bytes.{turn, end}
use Rattle.crc.proofs.after_rest.Goals as goal

pub loop-byte-preserved : goal.loop-byte-preserved
loop-byte-preserved c =
    rw c.step-so_far.ensures (sym (turn c.loop-byte.so_far c.args.bytes.now c.loop-byte.byte-index c.loop-byte-test.true) ∙ c.loop-byte.invariant)

pub returns : goal.returns
returns c = sym (end _ c.args.bytes.now c.loop-byte.byte-index c.loop-byte-test.false) ∙ c.loop-byte.invariant
