-- `crc::step` meets its contract, since the step is linear over exclusive or (Linear). Assumes nothing.
use mathlib.Core.Path.{sym}
use native.Mathlib.Omega.{arith}
use Rattle.crc.proofs.Linear.{one_byte}
use Rattle.crc.proofs.step.Goals as goal

pub returns : goal.returns
returns c =
    let a = c.args in
    rw (c.after_high.ensures, c.from.ensures) (sym (one_byte a.word a.byte (omega arith) (omega arith)))
