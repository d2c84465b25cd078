-- Laws of cells and of places round a track. Assumes nothing.
use Prim.Native.Nat.{ℕ, ◌+◌, ◌-◌, ◌*◌, ◌/◌, ◌%◌, ◌^◌, ◌<◌, ◌≤◌}
use mathlib.Core.Path.{◌≡◌, refl, sym, ap, ◌∙◌}
use mathlib.Core.Bool.{Bool, true, false, cond}
use mathlib.Core.List.{List}
use native.Mathlib.Nat.{mod-eq_of_lt, mod-add-mod, add-mod_right, zero-div, one-mul}
use native.Mathlib.Omega.{arith}
use borrow.Author.Tests.{lt-ltb}
use lib.Dec.{ltb}
use lib.Pow.{pow-lt}
use lib.ListN.{length, get_or-eq_default}
use Rattle.cells.specs.CellsAndBytes.{cell_at, cell}

pub cell_at-lt : (bytes : List ℕ) (i : ℕ) → cell_at bytes i < 2
unfolding cell_at
cell_at-lt bytes i = omega arith

pub cell_at_past : (bytes : List ℕ) (i : ℕ) → length bytes ≤ i / 8 → cell_at bytes i ≡ 0
unfolding cell_at
cell_at_past bytes i h = simp (get_or-eq_default bytes 0 h, zero-div)

pub cell-lt : (bytes : List ℕ) (n p : ℕ) → cell bytes n p < 2
unfolding cell
cell-lt bytes n p = go (ltb 0 n)
  where
    go : (b : Bool) → cond b (cell_at bytes (p % n)) 0 < 2
    go true = cell_at-lt bytes (p % n)
    go false = omega arith

pub cell-none : (bytes : List ℕ) (p : ℕ) → cell bytes 0 p ≡ 0
unfolding cell
cell-none bytes p = refl

pub cell-is : (bytes : List ℕ) (n p : ℕ) → 0 < n → cell bytes n p ≡ cell_at bytes (p % n)
unfolding cell
cell-is bytes n p h = rw (lt-ltb 0 n h)

-- before the track's end a place is its own
pub cell-low : (bytes : List ℕ) (n p : ℕ) → p < n → cell bytes n p ≡ cell_at bytes p
cell-low bytes n p h = cell-is bytes n p (omega arith) ∙ ap (cell_at bytes) (mod-eq_of_lt h)

-- the track again after n cells
pub cell-round : (bytes : List ℕ) (n p : ℕ) → cell bytes n (p + n) ≡ cell bytes n p
unfolding cell
cell-round bytes n p = rw (add-mod_right p n)

-- the place after (p + i) % n
pub next-is : (p i n at : ℕ) → at ≡ (p + i) % n → (at + 1) % n ≡ (p + (i + 1)) % n
next-is p i n at e =
    let s : p + (i + 1) ≡ p + i + 1 = omega arith in
    rw (e, mod-add-mod (p + i) n 1, s)

-- k places on, where that stays below n, and where it goes round
module _ (from k n : ℕ) where
  pub after-low : k < n - from % n → from % n + k ≡ (from + k) % n
  after-low h = let l : from % n + k < n = omega arith in sym (mod-eq_of_lt l) ∙ mod-add-mod from n k

  pub after-round : from % n < n → n - from % n ≤ k → (k - (n - from % n)) % n ≡ (from + k) % n
  after-round l h =
      let s : from % n + k ≡ k - (n - from % n) + n = omega arith in
      sym (add-mod_right (k - (n - from % n)) n) ∙ ap (λ (x : ℕ). x % n) (sym s) ∙ mod-add-mod from n k

-- the weight of a cell in its byte fits a byte
pub weight-fits : (p : ℕ) → 1 * 2 ^ (7 - p % 8) % 256 ≡ 2 ^ (7 - p % 8)
weight-fits p =
    let h : 7 - p % 8 < 8 = omega arith in
    let l = pow-lt {j = 8} h in
    rw (one-mul (2 ^ (7 - p % 8))) (mod-eq_of_lt l)
