-- `block_choice::argument_of` meets its contract. Assumes nothing.
use Rattle.block_choice.proofs.Words.{AtDigit}
use Rattle.block_choice.proofs.argument_of.Given as goal

abbrev pub invariant-loop-byte : goal.invariant-loop-byte
invariant-loop-byte l = AtDigit l.word l.number l.byte-index
