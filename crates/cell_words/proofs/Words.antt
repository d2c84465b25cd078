-- Words as masks of tests: each operation of the code is an equation of masks. Assumes nothing.
use Prim.Native.Nat.{ℕ, zero, suc, ◌+◌, ◌-◌, ◌*◌, ◌/◌, ◌%◌, ◌^◌, ◌<◌, ◌≤◌, min, max}
use mathlib.Core.Path.{◌≡◌, refl, sym, ap, ◌∙◌}
use mathlib.Core.Bool.{Bool, true, false, not, cond, ◌&&◌, ◌||◌}
use mathlib.Core.List.{List}
use native.Mathlib.Nat.{add-mul, zero-add, add-zero, suc-add, pow-suc, mul_assoc, zero-mul, zero-div, mod-lt}
use native.Mathlib.Numerals.{add-one}
use native.Mathlib.Decide.{ℕ_discrete}
use native.Mathlib.Omega.{arith}
use lib.Bits.{bit_and, bit_or, and_step, or_step, or_shifted}
use lib.Count.{ones, ones_step, ones-le, count_leading_zeros, leading_length, leading_unique}
use lib.Dec.{eqb}
use lib.ListN.{length, get_or, set}
use lib.Pow.{pow-add, pow_pos, low, high, shl_lt, shr_lt, shr-shr, shl-shr, field}
use lib.Seq.{get_or-set_same, get_or-set_other}
use Rattle.basis.specs.Search.{least, count}
use Rattle.cells.specs.CellsAndBytes.{word}
use Rattle.cells.proofs.Words.{word_lt, word_split, word-front, word_same}
use Rattle.cells.proofs.InBytes.{word-middle}
use Rattle.cell_words.specs.Words.{digit, mask, Holds}
use Rattle.cell_words.specs.Tests.{one_at}

infixl 6 ◌and◌
infixl 6 ◌or◌
pub digit_lt : (t : ℕ → Bool) (p : ℕ) → digit t p < 2
unfolding digit
digit_lt t p = go (t p)
  where
    go : (b : Bool) → cond b 1 0 < 2
    go true = omega arith
    go false = omega arith

pub mask_lt : (t : ℕ → Bool) (k p : ℕ) → mask t k p < 2 ^ k
unfolding mask
mask_lt t k p = word_lt (digit t) (digit_lt t) k p

-- two tests that pass at the same places have one mask
pub mask-same : (s t : ℕ → Bool) (k p q : ℕ) → ((i : ℕ) → i < k → s (p + i) ≡ t (q + i)) → mask s k p ≡ mask t k q
unfolding mask digit
mask-same s t k p q h = word_same (digit s) (digit t) k p q (λ i l. ap (λ (b : Bool). cond b 1 0) (h i l))

-- a digit put behind a number, and taken off again
half : (u : ℕ) (a : Bool) → (2 * u + cond a 1 0) / 2 ≡ u
half u true = omega arith
half u false = omega arith

last : (u : ℕ) (a : Bool) → (2 * u + cond a 1 0) % 2 ≡ cond a 1 0
last u true = omega arith
last u false = omega arith

pair-and : (a b : Bool) (u v : ℕ) → bit_and (2 * u + cond a 1 0) (2 * v + cond b 1 0) ≡ 2 * bit_and u v + cond (a && b) 1 0
pair-and a b u v =
    and_step (2 * u + cond a 1 0) (2 * v + cond b 1 0) ∙ rw (half u a, half v b, last u a, last v b) (go a b (bit_and u v))
  where
    go : (a b : Bool) (w : ℕ) → w * 2 + min (cond a 1 0) (cond b 1 0) ≡ 2 * w + cond (a && b) 1 0
    go true true w = omega arith
    go true false w = omega arith
    go false true w = omega arith
    go false false w = omega arith

pair_or : (a b : Bool) (u v : ℕ) → bit_or (2 * u + cond a 1 0) (2 * v + cond b 1 0) ≡ 2 * bit_or u v + cond (a || b) 1 0
pair_or a b u v =
    or_step (2 * u + cond a 1 0) (2 * v + cond b 1 0) ∙ rw (half u a, half v b, last u a, last v b) (go a b (bit_or u v))
  where
    go : (a b : Bool) (w : ℕ) → w * 2 + max (cond a 1 0) (cond b 1 0) ≡ 2 * w + cond (a || b) 1 0
    go true true w = omega arith
    go true false w = omega arith
    go false true w = omega arith
    go false false w = omega arith

-- and, or, not
pub mask-and : (s t : ℕ → Bool) (k p : ℕ) → bit_and (mask s k p) (mask t k p) ≡ mask (λ q. s q && t q) k p
unfolding mask digit word
mask-and s t zero p = refl
mask-and s t (suc k) p =
    pair-and (s (p + k)) (t (p + k)) (mask s k p) (mask t k p) ∙ ap (λ (x : ℕ). 2 * x + cond (s (p + k) && t (p + k)) 1 0) (mask-and s t k p)

pub mask-or : (s t : ℕ → Bool) (k p : ℕ) → bit_or (mask s k p) (mask t k p) ≡ mask (λ q. s q || t q) k p
unfolding mask digit word
mask-or s t zero p = refl
mask-or s t (suc k) p =
    pair_or (s (p + k)) (t (p + k)) (mask s k p) (mask t k p) ∙ ap (λ (x : ℕ). 2 * x + cond (s (p + k) || t (p + k)) 1 0) (mask-or s t k p)

pub mask-not : (t : ℕ → Bool) (k p : ℕ) → (2 ^ k - 1) - mask t k p ≡ mask (λ q. not (t q)) k p
unfolding mask digit word
mask-not t zero p = refl
mask-not t (suc k) p = go (t (p + k)) (2 ^ suc k) (2 ^ k) (mask t k p) (mask (λ q. not (t q)) k p) (pow-suc 2 k) (mask_lt t k p) (mask-not t k p)
  where
    go : (b : Bool) (z y u v : ℕ) → z ≡ y * 2 → u < y → (y - 1) - u ≡ v → (z - 1) - (2 * u + cond b 1 0) ≡ 2 * v + cond (not b) 1 0
    go true z y u v e l g = omega arith
    go false z y u v e l g = omega arith

-- two words of cells that follow each other hold each word between them
module _ (f : ℕ → ℕ) (bit : (i : ℕ) → f i < 2) where
  left-part : (k j p : ℕ) → word f (k + j) p * 2 ^ k % 2 ^ (j + k) ≡ word f j (p + k) * 2 ^ k
  left-part k j p =
      let b = shl_lt j k (word_lt f bit j (p + k)) in
      let e : word f (k + j) p * 2 ^ k ≡ word f k p * 2 ^ (j + k) + word f j (p + k) * 2 ^ k =
      rw (word_split f bit k j p, pow-add 2 j k) (regroup (word f k p) (2 ^ j) (word f j (p + k)) (2 ^ k)) in
      rw e (low (word f k p) (j + k) b)
    where
      regroup : (a y b z : ℕ) → (a * y + b) * z ≡ a * (y * z) + b * z
      regroup a y b z = add-mul (a * y) b z ∙ ap (λ (x : ℕ). x + b * z) (mul_assoc a y z)

  right-part : (k j p : ℕ) → word f (k + j) p / 2 ^ j ≡ word f k p
  right-part k j p = rw (word_split f bit k j p) (high (word f k p) j (word_lt f bit j (p + k)))

  pub word_over : (m k p : ℕ) → k ≤ m → k ≤ 64 → bit_or (word f 64 p * 2 ^ k % 2 ^ 64) (word f m (p + 64) / 2 ^ (m - k)) ≡ word f 64 (p + k)
  word_over m k p b h =
      let e : k + (64 - k) ≡ 64 = omega arith in
      let g : 64 - k + k ≡ 64 = omega arith in
      let d : k + (m - k) ≡ m = omega arith in
      let s : p + k + (64 - k) ≡ p + 64 = omega arith in
      let l : word f 64 p * 2 ^ k % 2 ^ 64 ≡ word f (64 - k) (p + k) * 2 ^ k = rw (e, g) at (left-part k (64 - k) p) in
      let r : word f m (p + 64) / 2 ^ (m - k) ≡ word f k (p + 64) = rw d at (right-part k (m - k) (p + 64)) in
      let w : word f 64 (p + k) ≡ word f (64 - k) (p + k) * 2 ^ k + word f k (p + 64) = rw (g, s) at (word_split f bit (64 - k) k (p + k)) in
      ap (λ (x : ℕ). bit_or x (word f m (p + 64) / 2 ^ (m - k))) l
      ∙ ap (bit_or (word f (64 - k) (p + k) * 2 ^ k)) r
      ∙ or_shifted (word f (64 - k) (p + k)) k (word f k (p + 64)) (word_lt f bit k (p + 64))
      ∙ sym w

  -- a word without its first k cells, shifted to the top
  pub word-rest : (k p : ℕ) → k ≤ 64 → word f 64 p * 2 ^ k % 2 ^ 64 ≡ word f (64 - k) (p + k) * 2 ^ k
  word-rest k p h =
      let e : k + (64 - k) ≡ 64 = omega arith in
      let g : 64 - k + k ≡ 64 = omega arith in
      rw (e, g) at (left-part k (64 - k) p)

-- the same of masks
pub mask-on : (t : ℕ → Bool) (k p : ℕ) → k ≤ 64
    → bit_or (mask t 64 p * 2 ^ k % 2 ^ 64) (mask t 64 (p + 64) / 2 ^ (64 - k)) ≡ mask (λ q. t (q + k)) 64 p
unfolding mask
mask-on t k p h =
    word_over (digit t) (digit_lt t) 64 k p h h
    ∙ mask-same t (λ q. t (q + k)) 64 (p + k) p (λ i l. let e : p + k + i ≡ p + i + k = omega arith in ap t e)

-- the ones of a mask are the places that pass
pub count-split : (t : ℕ → Bool) (a b p : ℕ) → count t (a + b) p ≡ count t a p + count t b (p + a)
unfolding count
count-split t zero b p = rw (zero-add b, add-zero p) (sym (zero-add (count t b p)))
count-split t (suc a) b p =
    let e : p + 1 + a ≡ p + suc a = omega arith in
    rw (suc-add a b) (omega (arith, rw e at (count-split t a b (p + 1))))

count-one : (t : ℕ → Bool) (q : ℕ) → count t 1 q ≡ cond (t q) 1 0
unfolding count
count-one t q = add-zero (cond (t q) 1 0)

count-last : (t : ℕ → Bool) (k p : ℕ) → count t (suc k) p ≡ count t k p + cond (t (p + k)) 1 0
count-last t k p = ap (λ (j : ℕ). count t j p) (sym (add-one k)) ∙ count-split t k 1 p ∙ ap (λ (x : ℕ). count t k p + x) (count-one t (p + k))

pub ones-mask : (t : ℕ → Bool) (k p : ℕ) → ones (mask t k p) ≡ count t k p
unfolding mask digit word ones count
ones-mask t zero p = refl
ones-mask t (suc k) p =
    let m = 2 * mask t k p + cond (t (p + k)) 1 0 in
    ones_step m ∙ ap (λ (x : ℕ). m % 2 + ones x) (half (mask t k p) (t (p + k)))
    ∙ rw (last (mask t k p) (t (p + k)), ones-mask t k p) (omega (arith, count-last t k p))

-- the zeros before its first one lead to the least place that passes
leading-more : (k m : ℕ) → m < 2 ^ k → count_leading_zeros (suc k) m ≡ suc (count_leading_zeros k m)
leading-more k m h =
    let s = leading_length k m h in
    sym (leading_unique (suc k) m (suc (count_leading_zeros k m)) s.0 (omega (arith, s.1)) s.2 s.3)

mask-front : (t : ℕ → Bool) (k p : ℕ) (b : Bool) → t p ≡ b → mask t (suc k) p ≡ cond b 1 0 * 2 ^ k + mask t k (p + 1)
unfolding mask digit
mask-front t k p b e = word-front (digit t) (digit_lt t) k p ∙ ap (λ (x : Bool). cond x 1 0 * 2 ^ k + mask t k (p + 1)) e

pub leading-mask : (t : ℕ → Bool) (k p : ℕ) → p + count_leading_zeros k (mask t k p) ≡ least t k p
unfolding least count_leading_zeros
leading-mask t zero p = add-zero p
leading-mask t (suc k) p = go (t p) refl (leading-mask t k (p + 1))
  where
    go : (b : Bool) → t p ≡ b → p + 1 + count_leading_zeros k (mask t k (p + 1)) ≡ least t k (p + 1)
        → p + count_leading_zeros (suc k) (mask t (suc k) p) ≡ cond b p (least t k (p + 1))
    go true e more =
        let m = mask-front t k p true e in
        let y = pow-suc 2 k in
        let z = leading_unique (suc k) (mask t (suc k) p) 0 (suc k) (zero-add (suc k)) (mask_lt t (suc k) p) (omega arith) in
        omega (arith, z)
    go false e more =
        let m : mask t (suc k) p ≡ mask t k (p + 1) = mask-front t k p false e ∙ omega arith in
        rw m (omega (arith, more, leading-more k (mask t k (p + 1)) (mask_lt t k (p + 1))))

-- a word of cells is the mask of its ones
pub word_ones : (f : ℕ → ℕ) → ((i : ℕ) → f i < 2) → (k p : ℕ) → word f k p ≡ mask (one_at f) k p
unfolding mask digit one_at
word_ones f bit k p = word_same f (digit (one_at f)) k p p (λ i l. one (f (p + i)) (bit (p + i)))
  where
    one : (x : ℕ) → x < 2 → x ≡ cond (eqb x 1) 1 0
    one zero h = refl
    one (suc zero) h = refl
    one (suc (suc x)) h = absurd (omega arith)

-- a map with a word more
pub holds-none : (t : ℕ → Bool) (words : List ℕ) → Holds t words 0
unfolding Holds
holds-none t words w h = absurd (omega arith)

pub holds_more : (t : ℕ → Bool) (words : List ℕ) (i v : ℕ) → Holds t words i → i < length words → v ≡ mask t 64 (64 * i) → Holds t (set words i v) (i + 1)
unfolding Holds
holds_more t words i v h l e w g = go (ℕ_discrete w i)
  where
    go : Dec (w ≡ i) → get_or (set words i v) w 0 ≡ mask t 64 (64 * w)
    go (yes s) = rw s (get_or-set_same words i v 0 l ∙ e)
    go (no s) = get_or-set_other words i w v 0 s ∙ h w (omega arith)

-- `Is t p x`: x is the mask of t from p on. With the operators below a proof is written like the code's own expression.
pub record Is (t : ℕ → Bool) (p x : ℕ) : Type 0 where
  pub is : x ≡ mask t 64 p

pub ◌and◌ : {s t : ℕ → Bool} {p x y : ℕ} → Is s p x → Is t p y → Is (λ q. s q && t q) p (bit_and x y)
◌and◌ {s} {t} {p} {x} {y} e g = record { is = ap (λ (z : ℕ). bit_and z y) e.is ∙ ap (bit_and (mask s 64 p)) g.is ∙ mask-and s t 64 p }

pub ◌or◌ : {s t : ℕ → Bool} {p x y : ℕ} → Is s p x → Is t p y → Is (λ q. s q || t q) p (bit_or x y)
◌or◌ {s} {t} {p} {x} {y} e g = record { is = ap (λ (z : ℕ). bit_or z y) e.is ∙ ap (bit_or (mask s 64 p)) g.is ∙ mask-or s t 64 p }

pub neg : {t : ℕ → Bool} {p x : ℕ} → Is t p x → Is (λ q. not (t q)) p ((2 ^ 64 - 1) - x)
neg {t} {p} e = record { is = ap (λ (z : ℕ). (2 ^ 64 - 1) - z) e.is ∙ mask-not t 64 p }

pub on-by : {t : ℕ → Bool} {p x y : ℕ} (k : ℕ) → k ≤ 64 → Is t p x → Is t (p + 64) y → Is (λ q. t (q + k)) p (bit_or (x * 2 ^ k % 2 ^ 64) (y / 2 ^ (64 - k)))
on-by {t} {p} {x} {y} k h e g =
    record { is = rw (e.is, g.is) (mask-on t k p h) }

-- two neighbours of a map
pub holds_at : (t : ℕ → Bool) (words : List ℕ) (m w : ℕ) → Holds t words m → w < m → get_or words w 0 ≡ mask t 64 (64 * w)
unfolding Holds
holds_at t words m w h l = h w l

pub holds-next : (t : ℕ → Bool) (words : List ℕ) (m w : ℕ) → Holds t words m → w + 1 < m → get_or words (w + 1) 0 ≡ mask t 64 (64 * w + 64)
unfolding Holds
holds-next t words m w h l = let e : 64 * (w + 1) ≡ 64 * w + 64 = omega arith in h (w + 1) l ∙ ap (mask t 64) e

-- the k bits of a word from bit s on
pub mask-part : (t : ℕ → Bool) (p s k : ℕ) → s + k ≤ 64 → mask t 64 p * 2 ^ s % 2 ^ 64 / 2 ^ (64 - k) ≡ mask t k (p + s)
unfolding mask
mask-part t p s k h =
    let x = word (digit t) 64 p in
    let e : k + (64 - k) ≡ 64 = omega arith in
    let g : s + (64 - s - k) ≡ 64 - k = omega arith in
    let l : s + (k + (64 - s - k)) ≡ 64 = omega arith in
    let a : x * 2 ^ s % 2 ^ 64 / 2 ^ (64 - k) ≡ x * 2 ^ s / 2 ^ (64 - k) % 2 ^ k = rw e at (field (x * 2 ^ s) k (64 - k)) in
    let b : x * 2 ^ s / 2 ^ s / 2 ^ (64 - s - k) ≡ x * 2 ^ s / 2 ^ (64 - k) = rw g at (shr-shr (x * 2 ^ s) s (64 - s - k)) in
    let m : x / 2 ^ (64 - s - k) % 2 ^ k ≡ word (digit t) k (p + s) = rw l at (word-middle (digit t) (digit_lt t) s k (64 - s - k) p) in
    a ∙ rw (← b, shl-shr x s) m

pub part-ones : (t : ℕ → Bool) (p s k x : ℕ) → s + k ≤ 64 → x ≡ mask t 64 p → ones (x * 2 ^ s % 2 ^ 64 / 2 ^ (64 - k)) ≡ count t k (p + s)
part-ones t p s k x h e = rw e (ap ones (mask-part t p s k h) ∙ ones-mask t k (p + s))

pub part_none : (t : ℕ → Bool) (p s k x : ℕ) → s + k ≤ 64 → x ≡ 0 → x ≡ mask t 64 p → 0 ≡ count t k (p + s)
unfolding ones
part_none t p s k x h z e =
    let a : 0 * 2 ^ s % 2 ^ 64 / 2 ^ (64 - k) ≡ 0 = rw (zero-mul (2 ^ s), zero-div (2 ^ (64 - k))) in
    sym (ap ones a) ∙ part-ones t p s k 0 h (sym z ∙ e)

pub part-few : (s k x : ℕ) → s + k ≤ 64 → ones (x * 2 ^ s % 2 ^ 64 / 2 ^ (64 - k)) ≤ k
part-few s k x h =
    let e : k + (64 - k) ≡ 64 = omega arith in
    let l : x * 2 ^ s % 2 ^ 64 < 2 ^ (k + (64 - k)) = rw e (mod-lt (x * 2 ^ s) (pow_pos 64)) in
    ones-le k (x * 2 ^ s % 2 ^ 64 / 2 ^ (64 - k)) (shr_lt k (64 - k) l)

-- a map of one test is that of any test that passes where it does
pub holds_same : (s t : ℕ → Bool) → ((q : ℕ) → s q ≡ t q) → (words : List ℕ) (m : ℕ) → Holds s words m → Holds t words m
unfolding Holds
holds_same s t e words m h w l = h w l ∙ mask-same s t 64 (64 * w) (64 * w) (λ i b. e (64 * w + i))

-- fewer words
pub holds-less : (t : ℕ → Bool) (words : List ℕ) (m k : ℕ) → Holds t words m → k ≤ m → Holds t words k
unfolding Holds
holds-less t words m k h l w g = h w (omega arith)
