-- The most bytes of the line of a finding whose numbers have 32 bits. Assumes nothing.
use Prim.Native.Nat.{ℕ, ◌<◌, ◌≤◌}
use native.Mathlib.Omega.{arith}
use lib.ListN.{length, length-append}
use Rattle.lines.specs.Lines.{bytes_of, finding_line}
use Rattle.lines.proofs.Digits.{decimal-short}
use Rattle.lines.proofs.Names.{name-few}

pub finding-few : (kind level place detail : ℕ) → kind < 0x1_0000_0000 → level < 0x1_0000_0000 → place < 0x1_0000_0000 → detail < 0x1_0000_0000
    → length (finding_line kind level place detail) ≤ 67
unfolding finding_line bytes_of
finding-few kind level place detail k l p d =
    simp length-append (omega (arith, name-few kind, decimal-short kind k, decimal-short level l, decimal-short place p, decimal-short detail d))
