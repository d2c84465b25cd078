-- Where a word stands: the test that a search makes, and that it comes again after a turn of the track. Assumes nothing.
use Prim.Native.Nat.{ℕ, ◌+◌, ◌-◌, ◌≤◌, ◌<◌, min}
use mathlib.Core.Path.{◌≡◌, sym, ap, ◌∙◌}
use mathlib.Core.Bool.{true, false, cond}
use mathlib.Core.List.{List}
use native.Mathlib.Decide.{ℕ_discrete}
use native.Mathlib.Nat.{min-eq_left, min-le_right}
use native.Mathlib.Omega.{arith}
use borrow.Author.Tests.{eq-eqb, ne_eqb}
use lib.Dec.{eqb}
use Rattle.basis.proofs.Search.{least-same, least-hit, least-none}
use Rattle.cells.specs.CellsAndBytes.{cell, word, word_at, stands, least_place}
use Rattle.cells.proofs.Places.{cell-round}
use Rattle.cells.proofs.Words.{word_none, word_same}

module _ (bytes : List ℕ) (n k x p : ℕ) where
  pub word-is : k ≤ 64 → word_at bytes n p k ≡ word (cell bytes n) k p
  unfolding word_at
  word-is h = rw (min-eq_left h)

  pub stands_here : word_at bytes n p k ≡ x → stands bytes n k x p ≡ true
  unfolding stands
  stands_here e = eq-eqb _ _ e

  pub stands-not : (word_at bytes n p k ≡ x → ⊥) → stands bytes n k x p ≡ false
  unfolding stands
  stands-not e = ne_eqb _ _ e

  pub stands-again : stands bytes n k x (p + n) ≡ stands bytes n k x p
  unfolding stands word_at
  stands-again = rw (word_same (cell bytes n) (cell bytes n) (min k 64) (p + n) p (λ i l. again i))
    where
      again : (i : ℕ) → cell bytes n (p + n + i) ≡ cell bytes n (p + i)
      again i = let e : p + n + i ≡ p + i + n = omega arith in ap (cell bytes n) e ∙ cell-round bytes n (p + i)

  -- the words of a track without cells, and words of no cells
  pub word-without-cells : n ≡ 0 → word_at bytes n p k ≡ 0
  unfolding word_at
  word-without-cells e = rw e (word_none bytes (min k 64) p)

  pub word-of-no-cells : min k 64 ≡ 0 → word_at bytes n p k ≡ 0
  unfolding word_at word
  word-of-no-cells e = rw e

stands-capped : (bytes : List ℕ) (n k x q : ℕ) → stands bytes n (min k 64) x q ≡ stands bytes n k x q
unfolding stands word_at
stands-capped bytes n k x q = rw (min-eq_left (min-le_right k 64))

-- a word of more than 64 cells is looked for as one of 64
pub least-capped : (bytes : List ℕ) (n k x from to : ℕ) → least_place bytes n (min k 64) x from to ≡ least_place bytes n k x from to
least-capped bytes n k x from to = least-same (stands bytes n (min k 64) x) (stands bytes n k x) same (to - from) from
  where
    same : (q : ℕ) → stands bytes n (min k 64) x q ≡ stands bytes n k x q
    same q = stands-capped bytes n k x q

-- where every word is 0
pub least-among-zeros : (bytes : List ℕ) (n k x from to : ℕ) → ((p : ℕ) → word_at bytes n p k ≡ 0) → from < to
    → cond (eqb x 0) from to ≡ least_place bytes n k x from to
least-among-zeros bytes n k x from to z h = go (ℕ_discrete x 0)
  where
    go : Dec (x ≡ 0) → cond (eqb x 0) from to ≡ least_place bytes n k x from to
    go (yes e) = rw (eq-eqb x 0 e) (sym (least-hit (stands bytes n k x) from to h (stands_here bytes n k x from (z from ∙ sym e))))
    go (no e) =
        let s : from + (to - from) ≡ to = omega arith in
        rw (ne_eqb x 0 e) (sym (least-none (stands bytes n k x) (to - from) from (λ q g. stands-not bytes n k x q (λ f. e (sym f ∙ z q))) ∙ s))
