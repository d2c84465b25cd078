-- How many elements of a list pass a test. Assumes nothing.
use Prim.Native.Nat.{ℕ, ◌+◌, ◌≤◌}
use mathlib.Core.Path.{◌≡◌, refl}
use mathlib.Core.Bool.{Bool, true, false, cond}
use mathlib.Core.List.Memᴰ
use mathlib.Core.List.{List, [], ◌∷◌, Memᴰ}
use mathlib.Core.Logic.{◌⊎◌, inl, inr}
use native.Mathlib.Decide.{dec_le}
use native.Mathlib.Nat.{lt_of_not-le}
use native.Mathlib.Omega.{arith}
use Rattle.finding_list.proofs.Members.{Ordered}
use Rattle.disk_laws.specs.Once.{times}

module _ {A : Type 0} (test : A → Bool) where
  pub times-has : (xs : List A) (a : A) → Memᴰ a xs → test a ≡ true → 1 ≤ times test xs
  unfolding times
  times-has [] a m e = absurd (Memᴰ.not-nil m)
  times-has (x ∷ xs) a m e = go (Memᴰ.cases_cons m) (λ l. times-has xs a l e)
    where
      go : (a ≡ x) ⊎ Memᴰ a xs → (Memᴰ a xs → 1 ≤ times test xs) → 1 ≤ cond (test x) 1 0 + times test xs
      go (inl s) more = rw (← s, e) (omega arith)
      go (inr l) more = omega (arith, more l)

  -- an element that passes
  pub record Passing (xs : List A) : Type 0 where
    pub element : A
    pub member : Memᴰ element xs
    pub passes : test element ≡ true

  pub times-from : (xs : List A) → 1 ≤ times test xs → Passing xs
  unfolding times
  times-from [] h = absurd (omega arith)
  times-from (x ∷ xs) h = go (test x) refl h (times-from xs)
    where
      go : (b : Bool) → test x ≡ b → 1 ≤ cond b 1 0 + times test xs → (1 ≤ times test xs → Passing xs) → Passing (x ∷ xs)
      go true e l more = record { element = x; member = Memᴰ.head refl; passes = e }
      go false e l more = let p = more (omega arith) in record { element = p.element; member = Memᴰ.tail p.member; passes = p.passes }

  times_none : (xs : List A) → ((a : A) → Memᴰ a xs → test a ≡ true → ⊥) → times test xs ≤ 0
  times_none xs h = go (dec_le 1 (times test xs))
    where
      go : Dec (1 ≤ times test xs) → times test xs ≤ 0
      go (yes l) = let p = times-from xs l in absurd (h p.element p.member p.passes)
      go (no l) = omega (arith, lt_of_not-le l)

  -- at most one, where of two elements in order not both pass
  pub times-few : (R : A → A → Type 0) (xs : List A) → Ordered R xs
      → ((a b : A) → Memᴰ a xs → Memᴰ b xs → R a b → test a ≡ true → test b ≡ true → ⊥) → times test xs ≤ 1
  unfolding times
  times-few R [] o h = omega arith
  times-few R (x ∷ xs) o h = go (test x) refl (times-few R xs o.1 (λ a b m n. h a b (Memᴰ.tail m) (Memᴰ.tail n)))
    where
      go : (b : Bool) → test x ≡ b → times test xs ≤ 1 → cond b 1 0 + times test xs ≤ 1
      go true e more = omega (arith, times_none xs (λ a m t. h x a (Memᴰ.head refl) (Memᴰ.tail m) (o.0 a m) e t))
      go false e more = omega arith

-- two such numbers are equal where one is at least 1 exactly when the other is
pub equal-times : (m n : ℕ) → m ≤ 1 → n ≤ 1 → (1 ≤ m → 1 ≤ n) → (1 ≤ n → 1 ≤ m) → m ≡ n
equal-times m n a b f g = go (dec_le 1 m) (dec_le 1 n)
  where
    go : Dec (1 ≤ m) → Dec (1 ≤ n) → m ≡ n
    go (yes p) q = omega (arith, f p)
    go (no p) (yes q) = absurd (p (g q))
    go (no p) (no q) = omega (arith, lt_of_not-le p, lt_of_not-le q)
