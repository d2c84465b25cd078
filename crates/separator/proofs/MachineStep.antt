-- The machine's arithmetic in a step: each number that it makes is the rule's, and a signed one fits an `i32`. Assumes nothing.
use Prim.Native.Nat.{ℕ, zero, suc, ◌+◌, ◌*◌, ◌/◌, ◌%◌, ◌≤◌, ◌<◌}
use mathlib.Core.Path.{◌≡◌, sym, ◌∙◌, ap, subst}
use mathlib.Core.Bool.{false}
use native.Mathlib.Nat.{add_comm, mod-lt, mod-add-mod, mod-add-div, add-mul-div_left, div-lt_iff_lt-mul}
use native.Mathlib.Omega.{arith}
use borrow.Author.Tests.{ltb-false}
use lib.IntN.{ℤ, pos, negsuc, neg_ℤ, sub_ℕ, ◌+ℤ◌}
use lib.Signed.{lt_z, mag, quot_z}
use mir.Syntax.{w32}
use mir.Val.{SFits, to_z, of_z}
use mir.Facts.{to_z-of_z, to_z_pos}
use Rattle.separator.specs.Rule.{cells_at, offset_at}
use Rattle.separator.proofs.Orders.{mag-sub}
use Rattle.separator.proofs.Differences.{as-sub, pos-sub, add-sub, sub_same}
use Rattle.separator.proofs.Lifted.{Kept, cells_is, offset-is}

-- half of a number that fits
mag-neg : (k : ℕ) {a : ℕ} → k ≤ suc a → mag (neg_ℤ (pos k)) ≤ a
mag-neg zero h = omega arith
mag-neg (suc k) h = omega arith

mag-half : (z : ℤ) → mag (quot_z z (pos 2)) ≤ mag z
mag-half (pos a) = omega arith
mag-half (negsuc a) = mag-neg (suc a / 2) (omega arith)

pub half-fits : (z : ℤ) → SFits w32 z → SFits w32 (quot_z z (pos 2))
half-fits z f = record { sfits = omega (arith, mag-half z, f.sfits) }

-- what the machine reads back from a number's bits
abbrev pub read_back : ℤ → ℤ
read_back z = to_z w32 (of_z w32 z)

-- below 2^31 the bits of a number are read as the number itself
pub small_is : (n : ℕ) → n < 2147483648 → to_z w32 n ≡ pos n
small_is n h = to_z_pos w32 {n = n} h

-- a number below 4,000 and one that fits and is at most 999 have a sum that fits
pub sum_fits : (m : ℕ) → m < 4000 → (z : ℤ) → SFits w32 z → lt_z (pos 999) z ≡ false → SFits w32 (to_z w32 m +ℤ z)
sum_fits m h (pos a) f e = rw (small_is m (omega arith)) (record { sfits = omega (arith, ltb-false 999 a e) })
sum_fits m h (negsuc a) f e =
    let is = ap (λ (x : ℤ). x +ℤ negsuc a) (small_is m (omega arith) ∙ pos-sub m) ∙ ap (λ (x : ℤ). sub_ℕ m 0 +ℤ x) (as-sub (negsuc a)) ∙ add-sub m 0 0 (suc a) in
    subst (SFits w32) (sym is) (record { sfits = mag-sub (m + 0) (0 + suc a) 2147483648 (omega arith) (omega (arith, f.sfits)) })

-- what a step asks: of half of the window, of the timing t, and of the residual r that is used
pub record Steppable (half t : ℕ) (r : ℤ) : Type 0 where
  pub low : 1000 ≤ half
  pub high : half ≤ 2000
  pub short : t ≤ 10000000
  pub kept : Kept half r

module _ {half t : ℕ} {r : ℤ} (s : Steppable half t r) where
  abbrev b : ℕ
  b = s.kept.lifted

  abbrev w : ℕ
  w = 2 * half

  some : 0 < w
  some = omega arith

  bound : 2 * b < 3 * half
  bound = s.kept.high

  -- what is left of a timing after its whole windows
  pub left : t % w < w
  left = mod-lt t some

  fits_sub : (m : ℕ) → m < 2147483648 → SFits w32 (sub_ℕ m half)
  fits_sub m k = record { sfits = mag-sub m half 2147483648 k (omega arith) }

  r-fits : SFits w32 r
  r-fits = subst (SFits w32) s.kept.is (fits_sub b (omega (arith, bound)))

  -- u without the timing's whole windows
  abbrev pub part : ℤ
  part = to_z w32 (t % w) +ℤ read_back r

  part-lifted : part ≡ sub_ℕ (t % w + b) half
  part-lifted =
      ap (λ (z : ℤ). z +ℤ read_back r) (small_is (t % w) (omega (arith, left)) ∙ pos-sub (t % w))
      ∙ ap (λ (z : ℤ). sub_ℕ (t % w) 0 +ℤ z) (to_z-of_z r-fits ∙ sym s.kept.is)
      ∙ add-sub (t % w) 0 b half
      ∙ sub_same (t % w + b) (0 + half) (t % w + b) half (omega arith)

  pub part-fits : SFits w32 part
  part-fits = subst (SFits w32) (sym part-lifted) (fits_sub (t % w + b) (omega (arith, left, bound)))

  pub part-is : sub_ℕ (t % w + b) half ≡ read_back part
  part-is = sym (to_z-of_z part-fits ∙ part-lifted)

  pub part_small : t % w + b < 4 * half
  part_small = omega (arith, left, bound)

  cells_are : (t + b) / w ≡ cells_at half r t
  cells_are = sym (cells_is half b t) ∙ ap (λ (z : ℤ). cells_at half z t) s.kept.is

  pub cells-small : cells_at half r t ≤ 5000
  cells-small =
      let l = (div-lt_iff_lt-mul {k = w} {x = t + b} {y = 5001} some).1 (omega (arith, bound)) in
      omega (arith, cells_are)

  -- the timing's whole windows, and what the part adds: n, and e
  pub n-is : t / w + (t % w + b) / w ≡ cells_at half r t
  n-is =
      let d = mod-add-div t w in
      let k : t % w + b + w * (t / w) ≡ t + b = omega arith in
      add_comm (t / w) ((t % w + b) / w) ∙ sym (add-mul-div_left (t % w + b) (t / w) some) ∙ ap (λ (x : ℕ). x / w) k ∙ cells_are

  pub e-is : sub_ℕ ((t % w + b) % w) half ≡ offset_at half r t
  e-is =
      ap (λ (x : ℕ). sub_ℕ x half) (mod-add-mod t w b)
      ∙ sym (offset-is half b t)
      ∙ ap (λ (z : ℤ). offset_at half z t) s.kept.is
