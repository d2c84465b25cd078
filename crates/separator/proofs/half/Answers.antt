-- `separator::half` meets its contract: a shift rounds down, and below zero one is added first. Assumes nothing.
use Prim.Native.Nat.{ℕ, zero, suc, ◌+◌, ◌-◌, ◌/◌, ◌≤◌}
use mathlib.Core.Path.{◌≡◌, refl, sym}
use mathlib.Core.Bool.{Bool, true, false}
use native.Mathlib.Omega.{arith}
use borrow.Author.Tests.{lt-ltb, ltb-true}
use lib.IntN.{ℤ, pos, negsuc, ◌+ℤ◌}
use lib.Signed.{lt_z, shr_z, quot_z}
use mir.Syntax.{w32}
use mir.Val.{SFits, bool_byte}
use mir.Facts.{to_z-of_z}
use Rattle.separator.specs.Rule.{halved}
use Rattle.separator.proofs.Differences.{as-sub}
use Rattle.separator.proofs.MachineStep.{half-fits, read_back}
use Rattle.separator.proofs.half.Goals as goal

-- one more than a number below -1
next : (b : ℕ) → negsuc (suc b) +ℤ pos 1 ≡ negsuc b
next b =
    let e : suc (suc b) - 2 ≡ b = omega arith in
    rw (lt-ltb 1 (suc (suc b)) (omega arith), e)

add-none : (z : ℤ) → z +ℤ pos 0 ≡ z
add-none (pos a) = let e : a + 0 ≡ a = omega arith in rw e
add-none (negsuc a) = sym (as-sub (negsuc a))

below : (z : ℤ) → lt_z z (pos 0) ≡ true → shr_z (z +ℤ pos 1) 2 ≡ quot_z z (pos 2)
below (pos a) e = absurd (omega (arith, ltb-true a 0 e))
below (negsuc zero) e = refl
below (negsuc (suc b)) e =
    let h : suc (suc b) / 2 ≡ suc (b / 2) = omega arith in
    rw (next b, h)

from_zero_up : (z : ℤ) → lt_z z (pos 0) ≡ false → shr_z z 2 ≡ quot_z z (pos 2)
from_zero_up (pos a) e = refl
from_zero_up (negsuc a) e = let z : ◌≡◌ {A = ℕ} 0 1 = cc in absurd (omega arith)

-- a number below 0 with 0 or 1 added to it fits
more-fits : (z : ℤ) (k : ℕ) → k ≤ 1 → lt_z z (pos 0) ≡ true → SFits w32 z → SFits w32 (z +ℤ pos k)
more-fits (pos a) k h e f = absurd (omega (arith, ltb-true a 0 e))
more-fits (negsuc a) zero h e f =
    let is : suc a - 1 ≡ a = omega arith in
    rw (lt-ltb 0 (suc a) (omega arith), is) f
more-fits (negsuc zero) (suc zero) h e f = record { sfits = omega arith }
more-fits (negsuc (suc b)) (suc zero) h e f = rw (next b) (record { sfits = omega (arith, f.sfits) })
more-fits (negsuc a) (suc (suc k)) h e f = absurd (omega arith)

-- half of z, with 1 added to it below 0
halves : (z k : ℤ) → SFits w32 z → k ≡ pos (bool_byte (lt_z z (pos 0))) → read_back (shr_z (read_back (read_back z +ℤ read_back k)) 2) ≡ halved z
unfolding halved
halves z k f e = go (lt_z z (pos 0)) refl e
  where
    s : read_back z ≡ z
    s = to_z-of_z f

    go : (x : Bool) → lt_z z (pos 0) ≡ x → k ≡ pos (bool_byte x) → read_back (shr_z (read_back (read_back z +ℤ read_back k)) 2) ≡ quot_z z (pos 2)
    go true l e = rw (e, s, to_z-of_z (more-fits z 1 (omega arith) l f), below z l) (to_z-of_z (half-fits z f))
    go false l e = rw (e, s, add-none z, s, from_zero_up z l) (to_z-of_z (half-fits z f))

pub returns : goal.returns
returns c =
    let s : read_back c.args.offset ≡ c.args.offset = to_z-of_z c.ranges.offset in
    halves c.args.offset c.from.result c.ranges.offset (rw s at c.from.ensures)
