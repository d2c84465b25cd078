-- The most bytes of a line whose numbers have 32 bits; no header and no line of a refusal is empty. Assumes nothing.
use Prim.Native.Nat.{ℕ, ◌<◌, ◌≤◌}
use native.Mathlib.Omega.{arith}
use lib.ListN.{length, length-append}
use Rattle.lines.specs.Lines.{bytes_of, two_digits, header_of, refused_line}
use Rattle.lines.proofs.Digits.{decimal-short}

pub header-few : (T H N sectors findings : ℕ) → H < 0x1_0000_0000 → N < 0x1_0000_0000 → sectors < 0x1_0000_0000 → findings < 0x1_0000_0000
    → length (header_of T H N sectors findings) ≤ 72
unfolding header_of two_digits bytes_of
header-few T H N sectors findings h n s f =
    simp length-append (omega (arith, decimal-short H h, decimal-short N n, decimal-short sectors s, decimal-short findings f))

pub refused-few : (number : ℕ) → number < 0x1_0000_0000 → length (refused_line number) ≤ 19
unfolding refused_line bytes_of
refused-few number h = simp length-append (omega (arith, decimal-short number h))

-- no header and no line of a refusal is empty
pub some_header : (T H N sectors findings : ℕ) → 0 < length (header_of T H N sectors findings)
unfolding header_of bytes_of
some_header T H N sectors findings = omega arith

pub some_refused : (number : ℕ) → 0 < length (refused_line number)
unfolding refused_line bytes_of
some_refused number = omega arith
