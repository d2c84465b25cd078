-- The first bytes of the word are written. Assumes nothing.
use Rattle.std.proofs.Common.{take}
use Rattle.lines.specs.PrivateContracts.{WroteOn}
use Rattle.lines.proofs.Line.word.Given as goal

abbrev pub invariant-loop-byte : goal.invariant-loop-byte
invariant-loop-byte l = WroteOn l.initial.self l.self (take l.byte-index l.bytes) l.byte-index
