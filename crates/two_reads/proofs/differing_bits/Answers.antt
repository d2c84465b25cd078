-- `two_reads::differing_bits` meets its contract: the bits counted and those of the bytes that are left make all of them. Assumes nothing.
use Prim.Native.Nat.{ℕ, ◌+◌, ◌≤◌, ◌<◌}
use mathlib.Core.Path.{◌≡◌}
use mathlib.Core.List.{List}
use native.Mathlib.Numerals.{add-one}
use native.Mathlib.Omega.{arith}
use lib.Bits.{bit_xor}
use lib.Count.{ones}
use lib.ListN.{length, get_or, drop, drop_of_length-le}
use lib.Seq.{drop-cons}
use borrow.Author.Rules.{rules}
use Rattle.std.proofs.lemmas.Nat.{ones-le, xor_of_8}
use Rattle.two_reads.specs.Comparison.{differing_bits}
use Rattle.two_reads.proofs.differing_bits.Goals as goal

turn : (first second : List ℕ) (i : ℕ) → i < length first → length first ≡ length second
    → differing_bits (drop i first) (drop i second) ≡ ones (bit_xor (get_or first i 0) (get_or second i 0)) + differing_bits (drop (i + 1) first) (drop (i + 1) second)
unfolding differing_bits
turn first second i h e = let l : i < length second = omega arith in rw (add-one, drop-cons first i 0, drop-cons second i 0 l)

end : (first second : List ℕ) (i : ℕ) → length first ≤ i → differing_bits (drop i first) (drop i second) ≡ 0
unfolding differing_bits
end first second i h = rw (drop_of_length-le first h)

pub loop-i-preserved : goal.loop-i-preserved
loop-i-preserved c =
    let a = c.args in
    let t = turn a.first.now a.second.now c.loop-i.i (omega arith) (omega arith) in
    record { few = omega (arith, ones-le 8 _ (xor_of_8 (get_or a.first.now c.loop-i.i 0) (get_or a.second.now c.loop-i.i 0) (search rules) (search rules)), c.loop-i.invariant.few); left = omega (arith, t, c.loop-i.invariant.left) }

pub returns : goal.returns
returns c =
    let a = c.args in
    omega (arith, end a.first.now a.second.now c.loop-i.i (omega arith), c.loop-i.invariant.left)
