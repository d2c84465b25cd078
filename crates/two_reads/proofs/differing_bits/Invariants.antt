-- `two_reads::differing_bits` meets its contract: the bits counted and those of the bytes that are left make all of them. Assumes nothing.
use Rattle.std.proofs.Common.{◌≡◌, ◌+◌, ◌*◌, ◌≤◌, drop}
use Rattle.two_reads.specs.Comparison.{differing_bits}
use Rattle.two_reads.proofs.differing_bits.Given as goal

abbrev pub invariant-loop-i : goal.invariant-loop-i
invariant-loop-i l =
    record {
      few : l.bits ≤ 8 * l.i;
      left : l.bits + differing_bits (drop l.i l.first) (drop l.i l.second) ≡ differing_bits l.first l.second;
    }
