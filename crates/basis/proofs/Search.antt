-- What `least`, `count` and `most` mean, and a turn of a loop that looks for them. Assumes nothing.
use Prim.Native.Nat.{ℕ, zero, suc, ◌+◌, ◌-◌, ◌*◌, ◌/◌, ◌%◌, ◌≤◌, ◌<◌}
use mathlib.Core.Path.{◌≡◌, refl, sym, ap, ◌∙◌}
use mathlib.Core.Bool.{Bool, true, false, cond, ◌||◌}
use mathlib.Core.Logic.{⊎_elim}
use native.Mathlib.Decide.{dec_le, ℕ_discrete}
use native.Mathlib.Nat.{eq-or-lt_of_le, lt_of_not-le, zero-add, add-zero, add-mul, mod-lt, div-add-mod', le_trans, max-le, le-max_left, le-max_right}
use native.Mathlib.Numerals.{add-one}
use native.Mathlib.Omega.{arith}
use borrow.Author.Tests.{lt-ltb, le-ltb}
use lib.Dec.{ltb}
use Rattle.basis.specs.Search.{least, count, most}
use Rattle.basis.proofs.Bools.{never_both}

-- nothing before the least passes the test
pub least-before : (test : ℕ → Bool) (k p q : ℕ) → p ≤ q → q < least test k p → test q ≡ false
unfolding least
least-before test zero p q h l = absurd (omega arith)
least-before test (suc k) p q h l = go (test p) refl l (λ g m. least-before test k (p + 1) q g m)
  where
    go : (b : Bool) → test p ≡ b → q < cond b p (least test k (p + 1)) → (p + 1 ≤ q → q < least test k (p + 1) → test q ≡ false) → test q ≡ false
    go true e m more = absurd (omega arith)
    go false e m more = ⊎_elim (λ z. ap test (sym z) ∙ e) (λ z. more (omega arith) m) (eq-or-lt_of_le h)

-- where the least lies within the range, it passes
pub least-found : (test : ℕ → Bool) (k p : ℕ) → least test k p < p + k → test (least test k p) ≡ true
unfolding least
least-found test zero p l = absurd (omega arith)
least-found test (suc k) p l = go (test p) refl l (λ m. least-found test k (p + 1) m)
  where
    go : (b : Bool) → test p ≡ b → cond b p (least test k (p + 1)) < p + suc k → (least test k (p + 1) < p + 1 + k → test (least test k (p + 1)) ≡ true)
        → test (cond b p (least test k (p + 1))) ≡ true
    go true e m more = e
    go false e m more = more (omega arith)

-- where nothing from p on passes, it is the end of the range
pub least-none : (test : ℕ → Bool) (k p : ℕ) → ((q : ℕ) → p ≤ q → test q ≡ false) → least test k p ≡ p + k
unfolding least
least-none test zero p h = sym (add-zero p)
least-none test (suc k) p h =
    let e : p + 1 + k ≡ p + suc k = omega arith in
    rw (h p (omega arith), least-none test k (p + 1) (λ q l. h q (omega arith)), e)

-- a place found in the first m places of a longer range is the longer range's
pub least-longer : (test : ℕ → Bool) (m k p : ℕ) → m ≤ k → least test m p < p + m → least test k p ≡ least test m p
unfolding least
least-longer test zero k p h l = absurd (omega arith)
least-longer test (suc m) zero p h l = absurd (omega arith)
least-longer test (suc m) (suc k) p h l = go (test p) l (λ g. least-longer test m k (p + 1) (omega arith) g)
  where
    go : (b : Bool) → cond b p (least test m (p + 1)) < p + suc m → (least test m (p + 1) < p + 1 + m → least test k (p + 1) ≡ least test m (p + 1))
        → cond b p (least test k (p + 1)) ≡ cond b p (least test m (p + 1))
    go true l more = refl
    go false l more = more (omega arith)

-- a test that comes again after n places
module _ (test : ℕ → Bool) (n : ℕ) (again : (p : ℕ) → test (p + n) ≡ test p) where
  turns : (p m : ℕ) → test (p + m * n) ≡ test p
  turns p zero = let e : p + 0 * n ≡ p = omega arith in ap test e
  turns p (suc m) =
      let e : p + suc m * n ≡ p + m * n + n = rw (← add-one m, add-mul m 1 n) (omega arith) in
      ap test e ∙ again (p + m * n) ∙ turns p m

  -- one turn without a place that passes: there is none
  pub least-turn : (k p : ℕ) → 0 < n → p + n ≤ least test n p → least test k p ≡ p + k
  least-turn k p h l = least-none test k p (λ q g. none q g)
    where
      none : (q : ℕ) → p ≤ q → test q ≡ false
      none q g =
          let d = q - p in
          let r = mod-lt (q - p) h in
          let e : q ≡ p + (q - p) % n + (q - p) / n * n = omega (arith, div-add-mod' (q - p) n) in
          ap test e ∙ turns (p + (q - p) % n) ((q - p) / n) ∙ least-before test n p (p + (q - p) % n) (omega arith) (omega arith)

-- a loop from p up to q: a turn that does not pass, one that does, and the end
module _ (test : ℕ → Bool) (p q : ℕ) where
  pub least_step : p < q → test p ≡ false → least test (q - p) p ≡ least test (q - (p + 1)) (p + 1)
  unfolding least
  least_step h e = let s : q - p ≡ suc (q - (p + 1)) = omega arith in rw (s, e)

  pub least-hit : p < q → test p ≡ true → least test (q - p) p ≡ p
  unfolding least
  least-hit h e = let s : q - p ≡ suc (q - (p + 1)) = omega arith in rw (s, e)

  pub least-end : q ≤ p → least test (q - p) p ≡ p
  unfolding least
  least-end h = let s : q - p ≡ 0 = omega arith in rw s

-- tests that agree find the same place
pub least-same : (test other : ℕ → Bool) → ((q : ℕ) → test q ≡ other q) → (k p : ℕ) → least test k p ≡ least other k p
unfolding least
least-same test other h zero p = refl
least-same test other h (suc k) p = rw (h p, least-same test other h k (p + 1))

-- the least lies in the range, or at its end
pub least-low : (test : ℕ → Bool) (k p : ℕ) → p ≤ least test k p
unfolding least
least-low test zero p = omega arith
least-low test (suc k) p = go (test p) (least-low test k (p + 1))
  where
    go : (b : Bool) → p + 1 ≤ least test k (p + 1) → p ≤ cond b p (least test k (p + 1))
    go true h = omega arith
    go false h = omega arith

pub least-high : (test : ℕ → Bool) (k p : ℕ) → least test k p ≤ p + k
unfolding least
least-high test zero p = omega arith
least-high test (suc k) p = go (test p) (least-high test k (p + 1))
  where
    go : (b : Bool) → least test k (p + 1) ≤ p + 1 + k → cond b p (least test k (p + 1)) ≤ p + suc k
    go true h = omega arith
    go false h = omega arith

-- a search can go on from the least place that passes a wider test
pub least_skip : (wider test : ℕ → Bool) → ((q : ℕ) → wider q ≡ false → test q ≡ false)
    → (k p to : ℕ) → p + k ≡ to → least test (to - least wider k p) (least wider k p) ≡ least test (to - p) p
unfolding least
least_skip wider test narrower zero p to e = refl
least_skip wider test narrower (suc k) p to e = go (wider p) refl (least_skip wider test narrower k (p + 1) to (omega arith))
  where
    go : (b : Bool) → wider p ≡ b → least test (to - least wider k (p + 1)) (least wider k (p + 1)) ≡ least test (to - (p + 1)) (p + 1)
        → least test (to - cond b p (least wider k (p + 1))) (cond b p (least wider k (p + 1))) ≡ least test (to - p) p
    go true w more = refl
    go false w more = more ∙ sym (least_step test p to (omega arith) (narrower p w))

-- two searches, the second no farther than where the first one ended, find the least place that passes one test or the other
pub least-either : (first second : ℕ → Bool) (k p : ℕ) → least second (least first k p - p) p ≡ least (λ q. first q || second q) k p
unfolding least
least-either first second zero p = let e : p - p ≡ 0 = omega arith in rw e
least-either first second (suc k) p = go (first p) (second p) refl (least-either first second k (p + 1))
  where
    go : (x y : Bool) → second p ≡ y → least second (least first k (p + 1) - (p + 1)) (p + 1) ≡ least (λ q. first q || second q) k (p + 1)
        → least second (cond x p (least first k (p + 1)) - p) p ≡ cond (x || y) p (least (λ q. first q || second q) k (p + 1))
    go true y e more = let n : p - p ≡ 0 = omega arith in rw n
    go false true e more = least-hit second p (least first k (p + 1)) (omega (arith, least-low first k (p + 1))) e
    go false false e more = least_step second p (least first k (p + 1)) (omega (arith, least-low first k (p + 1))) e ∙ more

-- in a longer range the least is not less
pub least-grows : (test : ℕ → Bool) (k p : ℕ) → least test k p ≤ least test (suc k) p
unfolding least
least-grows test zero p = least-low test 1 p
least-grows test (suc k) p = go (test p) (least-grows test k (p + 1))
  where
    go : (b : Bool) → least test k (p + 1) ≤ least test (suc k) (p + 1) → cond b p (least test k (p + 1)) ≤ cond b p (least test (suc k) (p + 1))
    go true more = omega arith
    go false more = more

-- of a test that comes again after n places, the least one turn on
pub least-round : (test : ℕ → Bool) (n : ℕ) → ((p : ℕ) → test (p + n) ≡ test p) → (k p : ℕ) → least test k (p + n) ≡ least test k p + n
unfolding least
least-round test n again zero p = refl
least-round test n again (suc k) p =
    let e : p + n + 1 ≡ p + 1 + n = omega arith in
    rw (again p, e, least-round test n again k (p + 1)) (go (test p))
  where
    go : (b : Bool) → cond b (p + n) (least test k (p + 1) + n) ≡ cond b p (least test k (p + 1)) + n
    go true = refl
    go false = refl

-- a place that passes bounds the least from above, and one that does not, where the search begins, from below
pub least-le : (test : ℕ → Bool) (k p q : ℕ) → p ≤ q → test q ≡ true → least test k p ≤ q
least-le test k p q h e = go (dec_le (least test k p) q)
  where
    go : Dec (least test k p ≤ q) → least test k p ≤ q
    go (yes l) = l
    go (no l) = absurd (never_both (test q) e (least-before test k p q h (lt_of_not-le l)))

pub least-past : (test : ℕ → Bool) (k p : ℕ) → 0 < k → test p ≡ false → p + 1 ≤ least test k p
least-past test k p h e = go (ℕ_discrete (least test k p) p) (least-low test k p)
  where
    go : Dec (least test k p ≡ p) → p ≤ least test k p → p + 1 ≤ least test k p
    go (yes s) l =
        let t : test (least test k p) ≡ true = least-found test k p (omega arith) in
        absurd (never_both (test p) (ap test (sym s) ∙ t) e)
    go (no s) l = omega arith

-- no more places pass than there are
pub count-few : (test : ℕ → Bool) (k p : ℕ) → count test k p ≤ k
unfolding count
count-few test zero p = omega arith
count-few test (suc k) p = go (test p) (count-few test k (p + 1))
  where
    go : (b : Bool) → count test k (p + 1) ≤ k → cond b 1 0 + count test k (p + 1) ≤ suc k
    go true more = omega arith
    go false more = omega arith

-- a count of places of which none passes
pub count_none : (test : ℕ → Bool) (k p : ℕ) → ((q : ℕ) → p ≤ q → q < p + k → test q ≡ false) → count test k p ≡ 0
unfolding count
count_none test zero p h = refl
count_none test (suc k) p h = rw (h p (omega arith) (omega arith), zero-add) (count_none test k (p + 1) (λ q a b. h q (omega arith) (omega arith)))

-- a loop from p up to q that counts from one place that passes to the next: a turn, and the end
module _ (test : ℕ → Bool) (q : ℕ) where
  pub count-end : (p : ℕ) → q ≤ p → count test (q - p) p ≡ 0
  unfolding count
  count-end p h = let s : q - p ≡ 0 = omega arith in rw s

  count-passed : (k p : ℕ) → p + k ≡ q
      → count test k p ≡ cond (ltb (least test k p) q) 1 0 + count test (q - (least test k p + 1)) (least test k p + 1)
  unfolding count least
  count-passed zero p e =
      let s : q - (p + 1) ≡ 0 = omega arith in
      rw (le-ltb p q (omega arith), s)
  count-passed (suc k) p e = go (test p) (count-passed k (p + 1) (omega arith))
    where
      go : (b : Bool) → count test k (p + 1) ≡ cond (ltb (least test k (p + 1)) q) 1 0 + count test (q - (least test k (p + 1) + 1)) (least test k (p + 1) + 1)
          → cond b 1 0 + count test k (p + 1)
          ≡ cond (ltb (cond b p (least test k (p + 1))) q) 1 0 + count test (q - (cond b p (least test k (p + 1)) + 1)) (cond b p (least test k (p + 1)) + 1)
      go true more = let s : q - (p + 1) ≡ k = omega arith in rw (lt-ltb p q (omega arith), s)
      go false more = rw zero-add more

  pub count_next : (p at : ℕ) → p ≤ q → at ≡ least test (q - p) p → count test (q - p) p ≡ cond (ltb at q) 1 0 + count test (q - (at + 1)) (at + 1)
  count_next p at h e = rw e (count-passed (q - p) p (omega arith))

-- none is larger than the largest
pub most-above : (g : ℕ → ℕ) (k p q : ℕ) → p ≤ q → q < p + k → g q ≤ most g k p
unfolding most
most-above g zero p q h l = absurd (omega arith)
most-above g (suc k) p q h l =
    ⊎_elim
    (λ e. rw (← e) (le-max_left (g p) (most g k (p + 1))))
    (λ e. le_trans (most-above g k (p + 1) q (omega arith) (omega arith)) (le-max_right (g p) (most g k (p + 1))))
    (eq-or-lt_of_le h)

-- a bound of all numbers bounds the largest
pub most-le : (g : ℕ → ℕ) (k p m : ℕ) → ((q : ℕ) → g q ≤ m) → most g k p ≤ m
unfolding most
most-le g zero p m h = omega arith
most-le g (suc k) p m h = max-le (h p) (most-le g k (p + 1) m h)
