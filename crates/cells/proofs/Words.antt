-- Laws of words of cells: of any cells f that are 0 or 1, and of a word that is carried along a track. Assumes nothing.
use Prim.Native.Nat.{ℕ, zero, suc, ◌+◌, ◌-◌, ◌*◌, ◌/◌, ◌%◌, ◌^◌, ◌<◌, ◌≤◌}
use mathlib.Core.Path.{◌≡◌, refl, sym, ap, ◌∙◌}
use mathlib.Core.List.{List}
use native.Mathlib.Nat.{mod-eq_of_lt, add-mul-mod_self_right, div-add-mod', mul_assoc, add-zero, add-suc, lt_of_lt_of_le}
use native.Mathlib.Numerals.{add-one}
use native.Mathlib.Omega.{arith}
use lib.Pow.{pow-add, pow_mono, pow_pos, low, high, ones_split, ones_lt, mod-mod-pow}
use lib.Bits.{bit_and, and_mask}
use Rattle.cells.specs.CellsAndBytes.{cell, word}
use Rattle.cells.proofs.Places.{cell-none}

pub word_none : (bytes : List ℕ) (k p : ℕ) → word (cell bytes 0) k p ≡ 0
unfolding word
word_none bytes zero p = refl
word_none bytes (suc k) p = omega (arith, word_none bytes k p, cell-none bytes (p + k))

-- words of cells that agree
pub word_same : (f g : ℕ → ℕ) (k p q : ℕ) → ((i : ℕ) → i < k → f (p + i) ≡ g (q + i)) → word f k p ≡ word g k q
unfolding word
word_same f g zero p q h = refl
word_same f g (suc k) p q h = omega (arith, word_same f g k p q (λ i l. h i (omega arith)), h k (omega arith))

module _ (f : ℕ → ℕ) (bit : (i : ℕ) → f i < 2) where
  pub word_lt : (k p : ℕ) → word f k p < 2 ^ k
  unfolding word
  word_lt zero p = omega arith
  word_lt (suc k) p = omega (arith, bit (p + k), word_lt k p, pow-add 2 k 1)

  double : (a k : ℕ) → a * 2 ^ suc k ≡ a * 2 ^ k * 2
  double a k = rw (← add-one k, pow-add 2 k 1) (sym (mul_assoc a (2 ^ k) 2))

  -- a word in two
  pub word_split : (a b p : ℕ) → word f (a + b) p ≡ word f a p * 2 ^ b + word f b (p + a)
  unfolding word
  word_split a zero p = rw (add-zero a) (omega arith)
  word_split a (suc b) p =
      rw (add-suc a b)
      (let e : p + (a + b) ≡ p + a + b = omega arith in
      omega (arith, word_split a b p, double (word f a p) b, ap f e))

  -- its highest digit taken off
  pub word-front : (k p : ℕ) → word f (suc k) p ≡ f p * 2 ^ k + word f k (p + 1)
  unfolding word
  word-front zero p = rw (add-zero p) (omega arith)
  word-front (suc k) p =
      let e : p + 1 + k ≡ p + suc k = omega arith in
      omega (arith, word-front k p, double (f p) k, ap f e)

  -- one cell on
  pub word-roll : (k p : ℕ) → (word f k p * 2 + f (p + k)) % 2 ^ k ≡ word f k (p + 1)
  unfolding word
  word-roll k p =
      let e : word f k p * 2 + f (p + k) ≡ f p * 2 ^ k + word f k (p + 1) = omega (arith, word-front k p) in
      rw e (low (f p) k (word_lt k (p + 1)))

  -- the last 64 cells of i cells, and one more
  pub more-cells : (i p c b : ℕ) → c ≡ word f i p % 2 ^ 64 → b ≡ f (p + i) → (c * 2 + b) % 2 ^ 64 ≡ word f (i + 1) p % 2 ^ 64
  unfolding word
  more-cells i p c b e g = rw (add-one i) (omega (arith, bit (p + i)))

-- twice a number and a digit, modulo m, by the number's remainder alone
double-mod : (x m b : ℕ) → 0 < m → (x * 2 + b) % m ≡ (x % m * 2 + b) % m
double-mod x m b h =
    let e : x * 2 + b ≡ x % m * 2 + b + x / m * 2 * m = regroup (x / m) (x % m) (x / m * m) x (div-add-mod' x m) refl in
    rw e (add-mul-mod_self_right (x % m * 2 + b) (x / m * 2) m)
  where
    regroup : (q r qm y : ℕ) → qm + r ≡ y → qm ≡ q * m → y * 2 + b ≡ r * 2 + b + q * 2 * m
    regroup q r qm y s t =
        let u : q * 2 * m ≡ qm * 2 = rw t (twice q) in
        omega arith
      where
        twice : (a : ℕ) → a * 2 * m ≡ a * m * 2
        twice a = mul_assoc a 2 m ∙ ap (λ (z : ℕ). a * z) (let c : 2 * m ≡ m * 2 = omega arith in c) ∙ sym (mul_assoc a m 2)

-- the last k of at most 64 cells
pub keeps : (k x : ℕ) → k ≤ 64 → x % 2 ^ 64 % 2 ^ k ≡ x % 2 ^ k
keeps k x h =
    let e : 64 - k + k ≡ 64 = omega arith in
    rw e at (mod-mod-pow x (64 - k) k)

module _ (f : ℕ → ℕ) (bit : (i : ℕ) → f i < 2) (k : ℕ) (h : k ≤ 64) where
  -- a word carried along as the last k cells of c: at the start, and one place on
  pub carried-start : (p c : ℕ) → c ≡ word f k p % 2 ^ 64 → c % 2 ^ k ≡ word f k p
  carried-start p c e = rw e (keeps k (word f k p) h ∙ mod-eq_of_lt (word_lt f bit k p))

  pub carried_on : (p c b : ℕ) → c % 2 ^ k ≡ word f k p → b ≡ f (p + k) → (c * 2 + b) % 2 ^ 64 % 2 ^ k ≡ word f k (p + 1)
  carried_on p c b e g = keeps k (c * 2 + b) h ∙ double-mod c (2 ^ k) b (pow_pos k) ∙ rw (e, g) (word-roll f bit k p)

  pub small : (p : ℕ) → word f k p % 2 ^ 64 ≡ word f k p
  small p = mod-eq_of_lt (lt_of_lt_of_le (word_lt f bit k p) (pow_mono {j = 64} h))

-- the mask of k ones
pub mask_is : (c k : ℕ) → k ≤ 64 → bit_and c (0xFFFF_FFFF_FFFF_FFFF / 2 ^ (64 - k)) ≡ c % 2 ^ k
mask_is c k h =
    let s : k + (64 - k) ≡ 64 = omega arith in
    let o : 2 ^ 64 - 1 ≡ (2 ^ k - 1) * 2 ^ (64 - k) + (2 ^ (64 - k) - 1) = rw s at (ones_split k (64 - k)) in
    let m : 0xFFFF_FFFF_FFFF_FFFF / 2 ^ (64 - k) ≡ 2 ^ k - 1 = ap (λ (x : ℕ). x / 2 ^ (64 - k)) o ∙ high (2 ^ k - 1) (64 - k) (ones_lt (64 - k)) in
    rw m (and_mask c k)
