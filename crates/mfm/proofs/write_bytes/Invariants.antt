-- `mfm::write_bytes` meets its contract: after i turns the first i bytes are decoded, and the rest is as it was. Assumes nothing.
use mathlib.Core.Path.{◌≡◌}
use mathlib.Core.List.{◌++◌}
use lib.ListN.{drop}
use Rattle.basis.specs.Lists.{listed}
use Rattle.mfm.specs.Coding.{decoded_byte}
use Rattle.mfm.proofs.write_bytes.Given as goal

abbrev pub invariant-loop-i : goal.invariant-loop-i
invariant-loop-i l = l.bytes ≡ listed (decoded_byte l.cells) l.i ++ drop l.i l.initial.bytes
