-- `Steps::after_bytes` meets its contract: what is left of the bytes takes the word so far to the end. Assumes nothing.
use Prim.Native.Nat.{◌*◌}
use mathlib.Core.Path.{◌≡◌}
use lib.ListN.{drop}
use Rattle.crc.specs.CheckWord.{check_word_from}
use Rattle.crc.proofs.Steps.after_bytes.Given as goal

abbrev pub invariant-loop-four : goal.invariant-loop-four
invariant-loop-four l = check_word_from l.so_far (drop (4 * l.four-index) l.bytes) ≡ check_word_from l.word l.bytes
