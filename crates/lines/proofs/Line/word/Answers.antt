-- The first bytes of the word are written. Assumes nothing.
use Rattle.std.proofs.Common.{arith}
use Rattle.std.proofs.lemmas.List.{take_more}
use Rattle.lines.proofs.Steps.{◌and◌, nothing_on}
use Rattle.lines.proofs.Line.word.Goals as goal

pub loop-byte-init : goal.loop-byte-init
loop-byte-init c = nothing_on c.args.self.now 0

pub loop-byte-preserved : goal.loop-byte-preserved
loop-byte-preserved c = rw (take_more c.args.bytes.now c.loop-byte.byte-index 0 (omega arith)) (c.loop-byte.invariant and c.byte.ensures)
