-- On cells that keep the clock rule but for syncs, the rules of MTV and NFA do not hold. Assumes nothing.
use Prim.Native.Nat.{ℕ, ◌+◌, ◌-◌, ◌≤◌}
use mathlib.Core.Path.{◌≡◌, refl, sym, ap, ◌∙◌}
use mathlib.Core.Bool.{Bool, true, false, ◌&&◌, ◌||◌}
use mathlib.Core.Logic.{◌⊎◌, inl, inr, ⊎_elim}
use native.Mathlib.Omega.{arith}
use borrow.Author.Tests.{eq-eqb, ne_eqb, eqb-true, le-ltb, lt-leb}
use lib.Dec.{ltb}
use Rattle.basis.specs.Search.{least, most}
use Rattle.basis.proofs.Search.{least-le, least-past, count_none, most-le}
use Rattle.cell_patterns.specs.Cells.{is_one, next_one, violation, zeros_from, longest_run, gaps_of}
use Rattle.finding_rules.specs.Rules.{mtv, nfa}
use Rattle.layouts.specs.Layouts.{double_density}
use Rattle.standard_track.proofs.Lawful.{Lawful, spaced, soon}

one-is : (f : ℕ → ℕ) (p : ℕ) → f p ≡ 1 → is_one f p ≡ true
unfolding is_one
one-is f p e = eq-eqb (f p) 1 e

zero_is : (f : ℕ → ℕ) (p : ℕ) → f p ≡ 0 → is_one f p ≡ false
unfolding is_one
zero_is f p e = ne_eqb (f p) 1 (λ g. absurd (omega arith))

one-at : (f : ℕ → ℕ) (p : ℕ) → is_one f p ≡ true → f p ≡ 1
unfolding is_one
one-at f p e = eqb-true (f p) 1 e

module _ (f d : ℕ → ℕ) (m : ℕ → Bool) (L : Lawful f d m) (n : ℕ) (big : 2 ≤ n) (again : (p : ℕ) → f (p + n) ≡ f p) where
  -- the law of ones asks for two cells before them, so it is taken one turn later
  one-spaced : (p : ℕ) → f p ≡ 1 → (f (p + 1) ≡ 0) × ((f (p + 2) ≡ 1) ⊎ ((f (p + 3) ≡ 1) ⊎ (f (p + 4) ≡ 1)))
  one-spaced p e =
      let s = spaced f d m L (p + n) (omega arith) (again p ∙ e) in (
        on 1 0 s.zero_next,
        ⊎_elim (λ z. inl (on 2 1 z)) (λ z. inr (⊎_elim (λ y. inl (on 3 1 y)) (λ y. inr (on 4 1 y)) z)) s.one_soon,
      )
    where
      on : (k x : ℕ) → f (p + n + k) ≡ x → f (p + k) ≡ x
      on k x g = let u : p + n + k ≡ p + k + n = omega arith in sym (again (p + k)) ∙ ap f (sym u) ∙ g

  next-near : (p : ℕ) → f p ≡ 1 → (p + 2 ≤ next_one f n p) × (next_one f n p ≤ p + 4)
  unfolding next_one
  next-near p e =
      let s = one-spaced p e in (
        (let l = least-past (is_one f) n (p + 1) (omega arith) (zero_is f (p + 1) s.0) in omega arith),
        ⊎_elim (λ z. at 2 (omega arith) (omega arith) z)
            (λ z. ⊎_elim (λ y. at 3 (omega arith) (omega arith) y) (λ y. at 4 (omega arith) (omega arith) y) z) s.1,
      )
    where
      at : (k : ℕ) → 1 ≤ k → k ≤ 4 → f (p + k) ≡ 1 → least (is_one f) n (p + 1) ≤ p + 4
      at k a b g = omega (arith, least-le (is_one f) n (p + 1) (p + k) (omega arith) (one-is f (p + k) g))

  no-violation : (p : ℕ) → violation double_density f n p ≡ false
  unfolding violation double_density
  no-violation p = go (is_one f p) refl
    where
      go : (x : Bool) → is_one f p ≡ x → (x && (ltb (next_one f n p - p) 2 || ltb 4 (next_one f n p - p))) ≡ false
      go false g = refl
      go true g =
          let s = next-near p (one-at f p g) in
          let a = s.0 in
          let b = s.1 in
          rw (le-ltb (next_one f n p - p) 2 (omega arith), le-ltb 4 (next_one f n p - p) (omega arith))

  pub no-mtv : (mtv (gaps_of double_density f n)).holds ≡ false
  unfolding gaps_of
  no-mtv = rw (count_none (violation double_density f n) n 0 (λ q a b. no-violation q))

  few_zeros : (p : ℕ) → zeros_from f n p ≤ 4
  unfolding zeros_from
  few_zeros p =
      let s = soon f d m L p in
      omega (arith, least-le (is_one f) n p (p + s.on) (omega arith) (one-is f (p + s.on) s.one), s.near)

  pub no-nfa : (nfa (gaps_of double_density f n)).holds ≡ false
  unfolding gaps_of longest_run
  no-nfa =
      let l : most (zeros_from f n) n 0 ≤ 4 = most-le (zeros_from f n) n 0 4 few_zeros in
      rw (lt-leb 1000 (most (zeros_from f n) n 0) (omega arith))
