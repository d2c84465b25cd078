-- The places from which so many zeros stand, and what they tell of the longest run. Assumes nothing.
use Prim.Native.Nat.{ℕ, zero, suc, ◌+◌, ◌-◌, ◌<◌, ◌≤◌}
use mathlib.Core.Path.{◌≡◌, refl, sym, ap, ◌∙◌}
use mathlib.Core.Bool.{Bool, true, false, not}
use native.Mathlib.Decide.{dec_le}
use native.Mathlib.Nat.{max-le, lt_of_not-le}
use native.Mathlib.Omega.{arith}
use borrow.Author.Tests.{eq-eqb, ne_eqb, le-leb, leb-true, leb-false, not-true}
use lib.Dec.{leb}
use Rattle.basis.specs.Search.{least, most}
use Rattle.basis.proofs.Bools.{and_left, and_right}
use Rattle.basis.proofs.Search.{least-low, least-before, least-found, least-le, most-above}
use Rattle.cell_words.specs.Tests.{one_at, like_at, both_at}
use Rattle.cell_patterns.specs.Cells.{is_one, zeros_from, longest_run, run_from, longest_start}

pub iff : (a b : Bool) → (a ≡ true → b ≡ true) → (b ≡ true → a ≡ true) → a ≡ b
iff true b h g = sym (h refl)
iff false true h g = g refl
iff false false h g = refl

pub one_same : (f : ℕ → ℕ) (q : ℕ) → one_at f q ≡ is_one f q
unfolding one_at is_one
one_same f q = refl

not-one : (f : ℕ → ℕ) (q : ℕ) → like_at false (one_at f) q ≡ not (is_one f q)
unfolding like_at
not-one f q = ap not (one_same f q)

pub most-below : (g : ℕ → ℕ) (b k p : ℕ) → ((q : ℕ) → q < p + k → g q ≤ b) → most g k p ≤ b
unfolding most
most-below g b zero p h = omega arith
most-below g b (suc k) p h = max-le (h p (omega arith)) (most-below g b k (p + 1) (λ q l. h q (omega arith)))

-- a place that passes, with none before it, is the least
pub least-is : (t : ℕ → Bool) (k s : ℕ) → s < k → t s ≡ true → ((q : ℕ) → q < s → t q ≡ false) → s ≡ least t k 0
least-is t k s h e before = go (dec_le s (least t k 0))
  where
    low : least t k 0 ≤ s
    low = least-le t k 0 s (omega arith) e

    go : Dec (s ≤ least t k 0) → s ≡ least t k 0
    go (yes l) = let b = low in omega arith
    go (no l) =
        let b = low in
        let y : ◌≡◌ {A = Bool} true false = sym (least-found t k 0 (omega arith)) ∙ before (least t k 0) (lt_of_not-le l) in
        let z : ◌≡◌ {A = ℕ} 0 1 = cc in
        absurd (omega arith)

-- t passes where k zeros or more stand
abbrev pub Level : (ℕ → ℕ) → ℕ → ℕ → (ℕ → Bool) → Type 0
Level f n k t = (p : ℕ) → t p ≡ leb k (zeros_from f n p)

module _ (f : ℕ → ℕ) (n : ℕ) where
  none-among : (m p q : ℕ) → m ≤ zeros_from f n p → p ≤ q → q < p + m → is_one f q ≡ false
  unfolding zeros_from
  none-among m p q h l g = least-before (is_one f) n p q l (omega (arith, least-low (is_one f) n p))

  zeros-among : (m p : ℕ) → m ≤ n → ((q : ℕ) → p ≤ q → q < p + m → is_one f q ≡ false) → m ≤ zeros_from f n p
  unfolding zeros_from
  zeros-among m p b none = go (dec_le (p + m) (least (is_one f) n p))
    where
      go : Dec (p + m ≤ least (is_one f) n p) → m ≤ least (is_one f) n p - p
      go (yes l) = omega arith
      go (no l) =
          let h = lt_of_not-le l in
          let y : ◌≡◌ {A = Bool} true false =
          sym (least-found (is_one f) n p (omega arith)) ∙ none (least (is_one f) n p) (least-low (is_one f) n p) h in
          let z : ◌≡◌ {A = ℕ} 0 1 = cc in
          absurd (omega arith)

  pub level-one : 1 ≤ n → Level f n 1 (like_at false (one_at f))
  level-one h p =
      not-one f p
      ∙ iff _ _
      (λ e. le-leb 1 (zeros_from f n p) (zeros-among 1 p h (λ q l g. let s : q ≡ p = omega arith in rw s (not-true (is_one f p) e))))
      (λ e. ap not (none-among 1 p p (leb-true 1 (zeros_from f n p) e) (omega arith) (omega arith)))

  pub level-more : (j k : ℕ) (t : ℕ → Bool) → Level f n j t → k ≤ j → j + k ≤ n → Level f n (j + k) (both_at k t)
  unfolding both_at
  level-more j k t lv h b p =
      iff _ _
      (λ e. le-leb (j + k) (zeros_from f n p) (zeros-among (j + k) p b (λ q l g. among q l g (dec_le (p + j) q) (at p (and_left (t p) (t (p + k)) e)) (at (p + k) (and_right (t p) (t (p + k)) e)))))
      (λ e.
      let z = leb-true (j + k) (zeros_from f n p) e in
      rw (
        passes p (zeros-among j p (omega arith) (λ q l g. none-among (j + k) p q z l (omega arith))),
        passes (p + k) (zeros-among j (p + k) (omega arith) (λ q l g. none-among (j + k) p q z (omega arith) (omega arith))),
      ))
    where
      at : (q : ℕ) → t q ≡ true → j ≤ zeros_from f n q
      at q e = leb-true j (zeros_from f n q) (sym (lv q) ∙ e)

      passes : (q : ℕ) → j ≤ zeros_from f n q → t q ≡ true
      passes q l = lv q ∙ le-leb j (zeros_from f n q) l

      among : (q : ℕ) → p ≤ q → q < p + (j + k) → Dec (p + j ≤ q) → j ≤ zeros_from f n p → j ≤ zeros_from f n (p + k) → is_one f q ≡ false
      among q l g (yes d) y z = none-among j (p + k) q z (omega arith) (omega arith)
      among q l g (no d) y z = none-among j p q y l (lt_of_not-le d)

  runs : (k q : ℕ) → zeros_from f n q ≡ k → run_from f n k q ≡ true
  unfolding run_from
  runs k q g = eq-eqb (zeros_from f n q) k g

  runs-not : (k q : ℕ) → zeros_from f n q < k → run_from f n k q ≡ false
  unfolding run_from
  runs-not k q g = ne_eqb (zeros_from f n q) k (λ z. omega arith)

  -- some place passes, and none has more zeros
  pub longest-is : (k s : ℕ) (t : ℕ → Bool) → Level f n k t → s ≡ least t n 0 → s < n → ((q : ℕ) → q < n → zeros_from f n q < k + 1)
      → (s ≡ longest_start f n) × (k ≡ longest_run f n)
  unfolding longest_start longest_run
  longest-is k s t lv e h none =
      let zs : zeros_from f n s ≡ k = at_least in
      let l = most-below (zeros_from f n) k n 0 (λ q g. let a = none q (omega arith) in omega arith) in
      let u = most-above (zeros_from f n) n 0 s (omega arith) (omega arith) in
      let r : k ≡ most (zeros_from f n) n 0 = omega arith in
      (rw (← r) (least-is (run_from f n k) n s h (runs k s zs) (λ q g. runs-not k q (before q g))), r)
    where
      found : t s ≡ true
      found = let g : least t n 0 < 0 + n = omega arith in rw e (least-found t n 0 g)

      at_least : zeros_from f n s ≡ k
      at_least = let a = leb-true k (zeros_from f n s) (sym (lv s) ∙ found) in let b = none s h in omega arith

      before : (q : ℕ) → q < s → zeros_from f n q < k
      before q g = leb-false k (zeros_from f n q) (sym (lv q) ∙ least-before t n 0 q (omega arith) (omega arith))
