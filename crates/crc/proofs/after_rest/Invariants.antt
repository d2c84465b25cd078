-- `crc::after_rest` meets its contract: what is left of the bytes takes the word so far to the end. Assumes nothing.
use mathlib.Core.Path.{◌≡◌}
use lib.ListN.{drop}
use Rattle.crc.specs.CheckWord.{check_word_from}
use Rattle.crc.proofs.after_rest.Given as goal

abbrev pub invariant-loop-byte : goal.invariant-loop-byte
invariant-loop-byte l = check_word_from l.so_far (drop l.byte-index l.bytes) ≡ check_word_from l.word l.bytes
