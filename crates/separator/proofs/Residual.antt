-- The residual that a step uses, for any half window. Assumes nothing.
use Prim.Native.Nat.{ℕ, ◌+◌, ◌-◌, ◌/◌, ◌<◌, ◌≤◌}
use mathlib.Core.Path.{◌≡◌, refl, sym, ◌∙◌, ap, subst}
use mathlib.Core.Bool.{Bool, true, false, cond, ◌&&◌}
use mathlib.Core.Logic.{◌⊎◌, ⊎_elim}
use native.Mathlib.Omega.{arith}
use lib.Dec.{T}
use lib.IntN.{ℤ, pos, negsuc, neg_ℤ, sub_ℕ, ◌-ℤ◌}
use lib.Signed.{le_z, lt_z}
use mir.Syntax.{w32}
use mir.Val.{SFits, to_z}
use mir.Facts.{to_z-of_z}
use Rattle.basis.proofs.Bools.{fails}
use Rattle.separator.specs.Rule.{double_half_window, single_half_window, least_residual, most_residual, usable}
use Rattle.separator.proofs.Differences.{up, down, as-sub, pos-sub, neg-sub, minus-sub, sub_parts, sub_same}
use Rattle.separator.proofs.Orders.{le_of, sub-le, lt_not_le, mag-sub}
use Rattle.separator.proofs.MachineStep.{read_back, small_is}
use Rattle.separator.proofs.Lifted.{Kept, kept-none}

sure : (x : Bool) → T x → x ≡ true
sure true t = refl
sure false t = absurd t

-- the residuals that a step can leave: -500 to 499 for double density, and -1000 to 999 for single density
pub ranges : (least_residual double_half_window ≡ negsuc 499) × (most_residual double_half_window ≡ pos 499)
    × (least_residual single_half_window ≡ negsuc 999) × (most_residual single_half_window ≡ pos 999)
ranges = (refl, refl, refl, refl)

module _ (half : ℕ) where
  abbrev least : ℤ
  least = least_residual half

  abbrev most : ℤ
  most = most_residual half

  least-sub : least ≡ sub_ℕ 0 (half / 2)
  least-sub = ap neg_ℤ (pos-sub (half / 2)) ∙ neg-sub (half / 2) 0

  most-sub : most ≡ sub_ℕ ((half - 1) / 2) 0
  most-sub = pos-sub ((half - 1) / 2)

  -- the two as the machine makes them
  least-made : half ≤ 2000 → pos 0 -ℤ to_z w32 (half / 2) ≡ least
  least-made h =
      ap (λ (z : ℤ). pos 0 -ℤ z) (small_is (half / 2) (omega arith) ∙ pos-sub (half / 2))
      ∙ ap (λ (z : ℤ). z -ℤ sub_ℕ (half / 2) 0) (pos-sub 0)
      ∙ minus-sub 0 0 (half / 2) 0
      ∙ sub_same (0 + 0) (0 + half / 2) 0 (half / 2) (omega arith)
      ∙ sym least-sub

  least-read : half ≤ 2000 → read_back (pos 0 -ℤ to_z w32 (half / 2)) ≡ least
  least-read h =
      let fits : SFits w32 least = rw least-sub (record { sfits = mag-sub 0 (half / 2) 2147483648 (omega arith) (omega arith) }) in
      rw (least-made h) (to_z-of_z fits)

  most-read : half ≤ 2000 → to_z w32 ((half - 1) / 2) ≡ most
  most-read h = small_is ((half - 1) / 2) (omega arith)

  -- and the tests of the code
  module _ {r : ℤ} (small : half ≤ 2000) (fits : SFits w32 r) where
    pub tested-out : (le_z (read_back (pos 0 -ℤ to_z w32 (half / 2))) (read_back r) ≡ false) ⊎ (le_z (read_back r) (to_z w32 ((half - 1) / 2)) ≡ false) → pos 0 ≡ usable half r
    unfolding usable
    tested-out out =
        let held : read_back r ≡ r = to_z-of_z fits in
        ⊎_elim (λ e. rw (rw (least-read small, held) at e)) (λ e. rw (rw (most-read small, held) at e) (go (le_z least r))) out
      where
        go : (x : Bool) → pos 0 ≡ cond (x && false) r (pos 0)
        go true = refl
        go false = refl

    pub tested-in : le_z (read_back (pos 0 -ℤ to_z w32 (half / 2))) (read_back r) ≡ true → le_z (read_back r) (to_z w32 ((half - 1) / 2)) ≡ true → read_back r ≡ usable half r
    unfolding usable
    tested-in e f =
        let held : read_back r ≡ r = to_z-of_z fits in
        held ∙ rw (rw (least-read small, held) at e, rw (most-read small, held) at f)

  module _ (r : ℤ) where
    within-range : le_z least r ≡ true → le_z r most ≡ true → r ≡ usable half r
    unfolding usable
    within-range e f = rw (e, f)

    -- one that a step leaves is used as it is
    pub kept-usable : Kept half r → usable half r ≡ r
    kept-usable k =
        let a = k.low in
        let b = k.high in
        let l : le_z (sub_ℕ 0 (half / 2)) (sub_ℕ k.lifted half) ≡ true = sure _ (sub-le 0 (half / 2) k.lifted half (omega arith)) in
        let h : le_z (sub_ℕ k.lifted half) (sub_ℕ ((half - 1) / 2) 0) ≡ true = sure _ (sub-le k.lifted half ((half - 1) / 2) 0 (omega arith)) in
        sym (within-range (rw (least-sub, ← k.is) l) (rw (most-sub, ← k.is) h))

    -- and is at most 999
    pub kept-few : half ≤ 2000 → Kept half r → lt_z (pos 999) r ≡ true → ⊥
    kept-few h k e =
        let b = k.high in
        let l : le_z (sub_ℕ k.lifted half) (sub_ℕ 999 0) ≡ true = sure _ (sub-le k.lifted half 999 0 (omega arith)) in
        let m : le_z r (pos 999) ≡ true = rw (pos-sub 999, ← k.is) l in
        subst T (sym m ∙ lt_not_le (pos 999) r e) tt

    kept-in-range : 0 < half → le_z least r ≡ true → le_z r most ≡ true → Kept half r
    kept-in-range some low high =
        let p = le_of (sub_ℕ 0 (half / 2)) r (subst T (sym (rw least-sub at low)) tt) in
        let q = le_of r (sub_ℕ ((half - 1) / 2) 0) (subst T (sym (rw most-sub at high)) tt) in
        let x = sub_parts 0 (half / 2) in
        let y = sub_parts ((half - 1) / 2) 0 in
        let b = up r + half - down r in
        record { lifted = b; low = omega arith; high = omega arith; is = sub_same b half (up r) (down r) (omega arith) ∙ sym (as-sub r) }

    -- whatever the state holds, what a step uses is one that a step can leave
    pub usable-kept : 0 < half → Kept half (usable half r)
    unfolding usable
    usable-kept some = go (le_z least r) (le_z r most) refl refl
      where
        none : Kept half (pos 0)
        none = kept-none half some

        go : (x y : Bool) → le_z least r ≡ x → le_z r most ≡ y → Kept half (cond (x && y) r (pos 0))
        go true true p q = kept-in-range some p q
        go true false p q = none
        go false true p q = none
        go false false p q = none

-- what a step uses it uses as it is
pub usable-again : (half : ℕ) (r : ℤ) → 0 < half → usable half (usable half r) ≡ usable half r
usable-again half r some = kept-usable half (usable half r) (usable-kept half r some)

pub usable-few : (half : ℕ) (r : ℤ) → 0 < half → half ≤ 2000 → lt_z (pos 999) (usable half r) ≡ false
usable-few half r some small = fails (lt_z (pos 999) (usable half r)) (kept-few half (usable half r) small (usable-kept half r some))
