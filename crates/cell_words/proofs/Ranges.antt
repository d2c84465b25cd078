-- Counting and searching over places that begin and end anywhere in a map. Assumes nothing.
use Prim.Native.Nat.{ℕ, zero, suc, ◌+◌, ◌-◌, ◌*◌, ◌/◌, ◌%◌, ◌^◌, ◌<◌, ◌≤◌, min}
use mathlib.Core.Path.{◌≡◌, refl, sym, ap, ◌∙◌}
use mathlib.Core.Bool.{Bool, true, false, cond}
use native.Mathlib.Nat.{add-zero, pow-suc, mul_assoc, zero-mul, min-eq_left, min-eq_right, eq-zero-or-pos, mul-le-mul_right}
use native.Mathlib.Omega.{arith}
use mathlib.Core.Logic.{◌⊎◌, inl, inr}
use lib.Count.{count_leading_zeros, leading_of_zero, leading_top, leading_unique}
use lib.Pow.{pow-add, pow_pos, shl_lt}
use Rattle.basis.specs.Search.{least, count}
use Rattle.basis.proofs.Search.{least-low, least-longer, least_step, count-end}
use Rattle.cell_words.specs.Words.{digit, mask}
use Rattle.cell_words.proofs.Words.{digit_lt, mask_lt, word-rest, count-split, leading-mask}

-- a range cut in two
pub count-join : (t : ℕ → Bool) (from m to : ℕ) → from ≤ m → m ≤ to → count t (m - from) from + count t (to - m) m ≡ count t (to - from) from
count-join t from m to h l =
    let e : to - from ≡ m - from + (to - m) = omega arith in
    let g : from + (m - from) ≡ m = omega arith in
    sym (ap (λ (k : ℕ). count t k from) e ∙ count-split t (m - from) (to - m) from ∙ ap (λ (q : ℕ). count t (m - from) from + count t (to - m) q) g)

-- a whole word after others
pub count-more : (t : ℕ → Bool) (a w found r : ℕ) → a ≤ w → found ≡ count t (64 * (w - a)) (64 * a) → r ≡ count t 64 (64 * w + 0)
    → found + r ≡ count t (64 * (w + 1 - a)) (64 * a)
count-more t a w found r h e g =
    let k : 64 * (w + 1 - a) ≡ 64 * (w - a) + 64 = omega arith in
    let q : 64 * a + 64 * (w - a) ≡ 64 * w + 0 = omega arith in
    rw (e, g, k) (sym (count-split t (64 * (w - a)) 64 (64 * a) ∙ ap (λ (p : ℕ). count t (64 * (w - a)) (64 * a) + count t 64 p) q))

-- cutting a range off bounds its least place
pub least-min : (t : ℕ → Bool) (k m p : ℕ) → k ≤ m → least t k p ≡ min (p + k) (least t m p)
unfolding least
least-min t zero m p h = rw (add-zero p) (sym (min-eq_left (least-low t m p)))
least-min t (suc k) zero p h = absurd (omega arith)
least-min t (suc k) (suc m) p h = go (t p) (least-min t k m (p + 1) (omega arith))
  where
    go : (b : Bool) → least t k (p + 1) ≡ min (p + 1 + k) (least t m (p + 1)) → cond b p (least t k (p + 1)) ≡ min (p + suc k) (cond b p (least t m (p + 1)))
    go true more = let l : p ≤ p + suc k = omega arith in sym (min-eq_right l)
    go false more = let e : p + 1 + k ≡ p + suc k = omega arith in rw (← e) more

-- so the code may search to the end of a word and cut afterwards
pub least-before-to : (t : ℕ → Bool) (from to end : ℕ) → from ≤ to → to ≤ end → least t (to - from) from ≡ min to (least t (end - from) from)
least-before-to t from to end h l =
    let e : from + (to - from) ≡ to = omega arith in
    let g : to - from ≤ end - from = omega arith in
    rw e at (least-min t (to - from) (end - from) from g)

-- k places decide a longer search, or leave it to what comes after them
pub least-hits : (t : ℕ → Bool) (p k z end : ℕ) → p + z ≡ least t k p → z < k → p + k ≤ end → p + z ≡ least t (end - p) p
least-hits t p k z end e l h = e ∙ sym (least-longer t k (end - p) p (omega arith) (omega arith))

pub least-misses : (t : ℕ → Bool) (k p end : ℕ) → least t k p ≡ p + k → p + k ≤ end → least t (end - p) p ≡ least t (end - (p + k)) (p + k)
unfolding least
least-misses t zero p end e h = rw (add-zero p)
least-misses t (suc k) p end e h = go (t p) refl e (least-misses t k (p + 1) end)
  where
    go : (b : Bool) → t p ≡ b → cond b p (least t k (p + 1)) ≡ p + suc k
        → (least t k (p + 1) ≡ p + 1 + k → p + 1 + k ≤ end → least t (end - (p + 1)) (p + 1) ≡ least t (end - (p + 1 + k)) (p + 1 + k))
        → least t (end - p) p ≡ least t (end - (p + suc k)) (p + suc k)
    go true s g more = absurd (omega arith)
    go false s g more =
        let q : p + 1 + k ≡ p + suc k = omega arith in
        least_step t p end (omega arith) s ∙ rw q at (more (omega arith) (omega arith))

-- shifting a number up within more bits keeps the zeros before it
leading-shift : (k s m : ℕ) → 0 < m → m < 2 ^ k → count_leading_zeros (k + s) (m * 2 ^ s) ≡ count_leading_zeros k m
leading-shift k s m pos h =
    let top = leading_top k m pos h in
    let j = top.0 in
    let e = pow-add 2 (suc j) s in
    let l : 2 ^ suc j * 2 ^ s ≤ 2 * m * 2 ^ s = mul-le-mul_right (2 ^ s) (omega (arith, pow-suc 2 j, top.2)) in
    let a = mul_assoc 2 m (2 ^ s) in
    sym (leading_unique (k + s) (m * 2 ^ s) (count_leading_zeros k m) (suc j + s) (omega (arith, top.1)) (shl_lt (suc j) s top.3) (omega arith))

module _ (t : ℕ → Bool) (p s x : ℕ) (e : x ≡ mask t 64 p) (h : s < 64) where
  abbrev rest : ℕ
  rest = x * 2 ^ s % 2 ^ 64

  rest-is : rest ≡ mask t (64 - s) (p + s) * 2 ^ s
  unfolding mask
  rest-is = rw e (word-rest (digit t) (digit_lt t) s p (omega arith))

  -- what is left of a word after s places: it has the least place, or none
  pub rest-hits : (end : ℕ) → (rest ≡ 0 → ⊥) → p + 64 ≤ end → p + s + count_leading_zeros 64 rest ≡ least t (end - (p + s)) (p + s)
  rest-hits end some l = go (eq-zero-or-pos m)
    where
      m : ℕ
      m = mask t (64 - s) (p + s)

      go : (m ≡ 0) ⊎ (0 < m) → p + s + count_leading_zeros 64 rest ≡ least t (end - (p + s)) (p + s)
      go (inl z) = absurd (some (rest-is ∙ ap (λ (y : ℕ). y * 2 ^ s) z ∙ zero-mul (2 ^ s)))
      go (inr pos) =
          let g : 64 - s + s ≡ 64 = omega arith in
          let b = mask_lt t (64 - s) (p + s) in
          let top = leading_top (64 - s) m pos b in
          let z : count_leading_zeros 64 (m * 2 ^ s) ≡ count_leading_zeros (64 - s) m = rw g at (leading-shift (64 - s) s m pos b) in
          rw (rest-is, z)
          (least-hits t (p + s) (64 - s) (count_leading_zeros (64 - s) m) end (leading-mask t (64 - s) (p + s)) (omega (arith, top.1)) (omega arith))

  pub rest-misses : (end : ℕ) → rest ≡ 0 → p + 64 ≤ end → least t (end - (p + s)) (p + s) ≡ least t (end - (p + 64)) (p + 64)
  rest-misses end none l = go (eq-zero-or-pos m)
    where
      m : ℕ
      m = mask t (64 - s) (p + s)

      go : (m ≡ 0) ⊎ (0 < m) → least t (end - (p + s)) (p + s) ≡ least t (end - (p + 64)) (p + 64)
      go (inl z) =
          let g : p + s + (64 - s) ≡ p + 64 = omega arith in
          let a = leading-mask t (64 - s) (p + s) in
          let b = ap (count_leading_zeros (64 - s)) z ∙ leading_of_zero (64 - s) in
          rw g at (least-misses t (64 - s) (p + s) end (omega arith) (omega arith))
      go (inr pos) =
          let q = pow_pos s in
          let big : 1 * 2 ^ s ≤ m * 2 ^ s = mul-le-mul_right (2 ^ s) pos in
          absurd (omega (arith, rest-is))

-- the cases of `count_before`: one word, several that end with the range, and a last one that does not
module _ (t : ℕ → Bool) (from to : ℕ) where
  pub count_none : to ≤ from → 0 ≡ count t (to - from) from
  count_none h = sym (count-end t to from h)

  pub count-within : (r : ℕ) → r ≡ count t (to - from) (64 * (from / 64) + from % 64) → r ≡ count t (to - from) from
  count-within r e = let g : 64 * (from / 64) + from % 64 ≡ from = omega arith in rw g at e

  module _ (h : from / 64 + 1 ≤ to / 64) (a b : ℕ) (ea : a ≡ count t (64 - from % 64) (64 * (from / 64) + from % 64))
      (eb : b ≡ count t (64 * (to / 64 - (from / 64 + 1))) (64 * (from / 64 + 1))) where
    pub count-whole : a + b ≡ count t (64 * (to / 64) - from) from
    count-whole =
        let g : 64 * (from / 64) + from % 64 ≡ from = omega arith in
        let k : 64 - from % 64 ≡ 64 * (from / 64 + 1) - from = omega arith in
        let l : 64 * (to / 64 - (from / 64 + 1)) ≡ 64 * (to / 64) - 64 * (from / 64 + 1) = omega arith in
        let x = rw (g, k) at ea in
        let y = rw l at eb in
        rw (x, y) (count-join t from (64 * (from / 64 + 1)) (64 * (to / 64)) (omega arith) (omega arith))

    pub count-two : to % 64 ≡ 0 → a + b ≡ count t (to - from) from
    count-two z = let e : 64 * (to / 64) ≡ to = omega arith in rw e at count-whole

    pub count-three : (d : ℕ) → d ≡ count t (to % 64) (64 * (to / 64) + 0) → a + b + d ≡ count t (to - from) from
    count-three d e =
        let g : 64 * (to / 64) + 0 ≡ 64 * (to / 64) = omega arith in
        let k : to % 64 ≡ to - 64 * (to / 64) = omega arith in
        let y : d ≡ count t (to - 64 * (to / 64)) (64 * (to / 64)) = e ∙ ap (λ (q : ℕ). count t (to % 64) q) g ∙ ap (λ (j : ℕ). count t j (64 * (to / 64))) k in
        rw (count-whole, y) (count-join t from (64 * (to / 64)) to (omega arith) (omega arith))

-- the cases of `least_before`, over l words: a hit in the first word, a hit later, and none
module _ (t : ℕ → Bool) (from to l : ℕ) (h : from < to) (g : to ≤ 64 * l) where
  is-least : (r : ℕ) → r ≡ min to (least t (64 * l - from) from) → r ≡ least t (to - from) from
  is-least r e = e ∙ sym (least-before-to t from to (64 * l) (omega arith) g)

  module _ (x : ℕ) (e : x ≡ mask t 64 (64 * (from / 64))) where
    pub first-hits : (z r : ℕ) → (x * 2 ^ (from % 64) % 2 ^ 64 ≡ 0 → ⊥) → z ≡ count_leading_zeros 64 (x * 2 ^ (from % 64) % 2 ^ 64) → r ≡ min to (from + z)
        → r ≡ least t (to - from) from
    first-hits z r some ez er =
        let p : 64 * (from / 64) + from % 64 ≡ from = omega arith in
        let f = rw p at (rest-hits t (64 * (from / 64)) (from % 64) x e (omega arith) (64 * l) some (omega arith)) in
        is-least r (er ∙ ap (min to) (ap (λ (y : ℕ). from + y) ez ∙ f))

    pub first-misses : x * 2 ^ (from % 64) % 2 ^ 64 ≡ 0 → least t (64 * l - from) from ≡ least t (64 * l - 64 * (from / 64 + 1)) (64 * (from / 64 + 1))
    first-misses none =
        let p : 64 * (from / 64) + from % 64 ≡ from = omega arith in
        let q : 64 * (from / 64) + 64 ≡ 64 * (from / 64 + 1) = omega arith in
        rw (p, q) at (rest-misses t (64 * (from / 64)) (from % 64) x e (omega arith) (64 * l) none (omega arith))

  module _ (w : ℕ) (inv : least t (64 * l - from) from ≡ least t (64 * l - 64 * w) (64 * w)) where
    module _ (x : ℕ) (e : x ≡ mask t 64 (64 * w)) (lw : 64 * w < to) where
      pub later-hits : (z r : ℕ) → (x ≡ 0 → ⊥) → z ≡ count_leading_zeros 64 x → r ≡ min to (64 * w + z) → r ≡ least t (to - from) from
      later-hits z r some ez er =
          let b : x < 2 ^ 64 = rw e (mask_lt t 64 (64 * w)) in
          let top = leading_top 64 x (omega arith) b in
          let m : 64 * w + count_leading_zeros 64 x ≡ least t 64 (64 * w) = ap (λ (y : ℕ). 64 * w + count_leading_zeros 64 y) e ∙ leading-mask t 64 (64 * w) in
          let f = least-hits t (64 * w) 64 (count_leading_zeros 64 x) (64 * l) m (omega (arith, top.1)) (omega arith) in
          is-least r (er ∙ ap (min to) (ap (λ (y : ℕ). 64 * w + y) ez ∙ f ∙ sym inv))

      pub later-misses : x ≡ 0 → least t (64 * l - from) from ≡ least t (64 * l - 64 * (w + 1)) (64 * (w + 1))
      later-misses none =
          let q : 64 * w + 64 ≡ 64 * (w + 1) = omega arith in
          let m : 64 * w + 64 ≡ least t 64 (64 * w) =
          ap (λ (y : ℕ). 64 * w + y) (sym (leading_of_zero 64)) ∙ ap (λ (y : ℕ). 64 * w + count_leading_zeros 64 y) (sym none ∙ e) ∙ leading-mask t 64 (64 * w) in
          inv ∙ rw q at (least-misses t 64 (64 * w) (64 * l) (sym m) (omega arith))

    pub nowhere : to ≤ 64 * w → to ≡ least t (to - from) from
    nowhere lw =
        let low = least-low t (64 * l - 64 * w) (64 * w) in
        let le : to ≤ least t (64 * l - from) from = rw inv (omega arith) in
        is-least to (sym (min-eq_left le))
