-- `Steps::after_four` meets its contract: each byte's part of the word is looked up by itself (Linear). Assumes nothing.
use mathlib.Core.Path.{sym}
use native.Mathlib.Omega.{arith}
use Rattle.crc.proofs.Linear.{four_bytes}
use Rattle.crc.proofs.Steps.after_four.Goals as goal

pub returns : goal.returns
returns c =
    let a = c.args in
    rw (
      c.entry.ensures,
      c.entry-2.ensures,
      c.entry-3.ensures,
      c.entry-4.ensures,
      c.from.ensures,
      c.from-2.ensures,
      c.from-3.ensures,
      c.from-4.ensures,
    )
    (sym (four_bytes a.word a.a a.b a.c a.d (omega arith) (omega arith) (omega arith) (omega arith) (omega arith)))
