-- The tests that the maps are made of find the word 4489, and any word cell by cell. Assumes nothing.
use Prim.Native.Nat.{ℕ, zero, suc, ◌+◌, ◌-◌, ◌*◌, ◌/◌, ◌%◌, ◌^◌, ◌<◌}
use mathlib.Core.Path.{◌≡◌, refl, sym, ap, ◌∙◌}
use mathlib.Core.Bool.{Bool, true, false, not, cond, ◌&&◌, ◌||◌}
use native.Mathlib.Nat.{add-zero, zero-add, pow-suc, div-div-eq-div-mul}
use native.Mathlib.Numerals.{add-one}
use native.Mathlib.Omega.{arith}
use borrow.Author.Tests.{eq-eqb, eqb-true, eqb-false, not-true}
use lib.Dec.{T, eqb}
use Rattle.basis.proofs.Bools.{and_left, and_right}
use Rattle.cells.specs.CellsAndBytes.{word}
use Rattle.cells.proofs.Words.{word_lt, word_split, word-front}
use Rattle.cell_words.specs.Words.{digit, mask}
use Rattle.cell_words.specs.Tests.{one_at, like_at, kept_from, alone_at, stands_at}
use Rattle.cell_words.specs.PrivateContracts.{seven_from, sync_from}
use Rattle.cell_words.proofs.Words.{word_ones}

-- 4489 as these tests find it
unfoldable sync_test : (ℕ → ℕ) → ℕ → Bool
sync_test f = sync_from (one_at f) (seven_from (one_at f) (alone_at (one_at f)))

-- a rule of a truth value holds where it holds of both
both : (Bool → Bool) → Bool
both g = g true && g false

both_at : (g : Bool → Bool) → T (both g) → (b : Bool) → T (g b)
unfolding both
both_at g h true = left (g true) (g false) h
  where
    left : (a b : Bool) → T (a && b) → T a
    left true b t = tt
    left false b t = absurd t
both_at g h false = right (g true) (g false) h
  where
    right : (a b : Bool) → T (a && b) → T b
    right true b t = t
    right false b t = absurd t

same : Bool → Bool → Bool
same true b = b
same false b = not b

same-is : (a b : Bool) → T (same a b) → a ≡ b
unfolding same
same-is true true h = refl
same-is true false h = absurd h
same-is false true h = absurd h
same-is false false h = refl

-- seven truth values read as a binary number
number : Bool → Bool → Bool → Bool → Bool → Bool → Bool → ℕ
number a b c d e f g = 2 * (2 * (2 * (2 * (2 * (2 * (2 * 0 + cond a 1 0) + cond b 1 0) + cond c 1 0) + cond d 1 0) + cond e 1 0) + cond f 1 0) + cond g 1 0

rule : Bool → Bool → Bool → Bool → Bool → Bool → Bool → Bool
rule a b c d e f g = same ((a && not (b || c)) && (not d && (e && not (f || g)))) (eqb (number a b c d e f g) 0x44)

seven-rule : (a b c d e f g : Bool) → ((a && not (b || c)) && (not d && (e && not (f || g)))) ≡ eqb (number a b c d e f g) 0x44
unfolding both same number rule
seven-rule a b c d e f g =
    same-is ((a && not (b || c)) && (not d && (e && not (f || g)))) (eqb (number a b c d e f g) 0x44)
    (both_at (rule a b c d e f)
    (both_at (λ f. both (rule a b c d e f))
    (both_at (λ e. both (λ f. both (rule a b c d e f)))
    (both_at (λ d. both (λ e. both (λ f. both (rule a b c d e f))))
    (both_at (λ c. both (λ d. both (λ e. both (λ f. both (rule a b c d e f)))))
    (both_at (λ b. both (λ c. both (λ d. both (λ e. both (λ f. both (rule a b c d e f))))))
    (both_at (λ a. both (λ b. both (λ c. both (λ d. both (λ e. both (λ f. both (rule a b c d e f)))))))
    tt a) b) c) d) e) f) g)

as_number : (t : ℕ → Bool) (q : ℕ) → number (t (q + 0)) (t (q + 1)) (t (q + 2)) (t (q + 3)) (t (q + 4)) (t (q + 5)) (t (q + 6)) ≡ mask t 7 q
unfolding number mask digit word
as_number t q = refl

one_cell : (f : ℕ → ℕ) (q : ℕ) → word f 1 q ≡ f (q + 0)
unfolding word
one_cell f q = zero-add (f (q + 0))

iff : (a b : Bool) → (a ≡ true → b ≡ true) → (b ≡ true → a ≡ true) → a ≡ b
iff true b h g = sym (h refl)
iff false true h g = g refl
iff false false h g = refl

module _ (f : ℕ → ℕ) (bit : (i : ℕ) → f i < 2) where
  pub seven_is : (q : ℕ) → seven_from (one_at f) (alone_at (one_at f)) q ≡ eqb (word f 7 q) 0x44
  unfolding seven_from alone_at
  seven_is q =
      let g : q + 4 + 1 ≡ q + 5 = omega arith in
      let h : q + 4 + 2 ≡ q + 6 = omega arith in
      rw (g, h)
      (seven-rule (one_at f q) (one_at f (q + 1)) (one_at f (q + 2)) (one_at f (q + 3)) (one_at f (q + 4)) (one_at f (q + 5)) (one_at f (q + 6))
      ∙ ap (λ (x : ℕ). eqb x 0x44) (rw (add-zero q) at (as_number (one_at f) q) ∙ sym (word_ones f bit 7 q)))

  -- the sixteen cells of a sync, cut into 1, 7, 7 and 1
  module _ (p : ℕ) where
    parts : word f 16 p ≡ f p * 2 ^ 15 + (word f 7 (p + 1) * 2 ^ 8 + (word f 7 (p + 8) * 2 ^ 1 + f (p + 15)))
    parts =
        let e : p + 1 + 7 ≡ p + 8 = omega arith in
        let g : p + 8 + 7 ≡ p + 15 = omega arith in
        word-front f bit 15 p
        ∙ ap (λ (x : ℕ). f p * 2 ^ 15 + x) (rw e at (word_split f bit 7 8 (p + 1)))
        ∙ ap (λ (x : ℕ). f p * 2 ^ 15 + (word f 7 (p + 1) * 2 ^ 8 + x)) (rw g at (word_split f bit 7 1 (p + 8)))
        ∙ ap (λ (x : ℕ). f p * 2 ^ 15 + (word f 7 (p + 1) * 2 ^ 8 + (word f 7 (p + 8) * 2 ^ 1 + x))) (word-one (p + 15))
      where
        word-one : (q : ℕ) → word f 1 q ≡ f q
        word-one q = rw (add-zero q) at (one_cell f q)

    forth : word f 16 p ≡ 0x4489 → (word f 7 (p + 1) ≡ 0x44) × (word f 7 (p + 8) ≡ 0x44) × (f p ≡ 0) × (f (p + 15) ≡ 1)
    forth e =
        let s = parts in
        let a = bit p in
        let b = bit (p + 15) in
        let c = word_lt f bit 7 (p + 1) in
        let d = word_lt f bit 7 (p + 8) in
        (omega arith, omega arith, omega arith, omega arith)

    back : word f 7 (p + 1) ≡ 0x44 → word f 7 (p + 8) ≡ 0x44 → f p ≡ 0 → f (p + 15) ≡ 1 → word f 16 p ≡ 0x4489
    back e g z o = let s = parts in omega arith

    none : not (one_at f p) ≡ true → f p ≡ 0
    unfolding one_at
    none e = let a = bit p in let n = eqb-false (f p) 1 (not-true (eqb (f p) 1) e) in zero_or (f p) a n
      where
        zero_or : (x : ℕ) → x < 2 → (x ≡ 1 → ⊥) → x ≡ 0
        zero_or x l h = omega arith

    none_is : f p ≡ 0 → not (one_at f p) ≡ true
    unfolding one_at
    none_is e = rw e

    some : one_at f p ≡ true → f p ≡ 1
    unfolding one_at
    some e = eqb-true (f p) 1 e

    some_is : f p ≡ 1 → one_at f p ≡ true
    unfolding one_at
    some_is e = eq-eqb (f p) 1 e

  sync-is : (p : ℕ) → sync_test f p ≡ eqb (word f 16 p) 0x4489
  unfolding sync_test sync_from
  sync-is p =
      let s = seven_from (one_at f) (alone_at (one_at f)) in
      iff _ _
      (λ h.
      let ab = and_left (s (p + 1) && s (p + 8)) (one_at f (p + 15) && not (one_at f p)) h in
      let cd = and_right (s (p + 1) && s (p + 8)) (one_at f (p + 15) && not (one_at f p)) h in
      eq-eqb (word f 16 p) 0x4489
      (back p
      (eqb-true (word f 7 (p + 1)) 0x44 (sym (seven_is (p + 1)) ∙ and_left (s (p + 1)) (s (p + 8)) ab))
      (eqb-true (word f 7 (p + 8)) 0x44 (sym (seven_is (p + 8)) ∙ and_right (s (p + 1)) (s (p + 8)) ab))
      (none p (and_right (one_at f (p + 15)) (not (one_at f p)) cd))
      (some (p + 15) (and_left (one_at f (p + 15)) (not (one_at f p)) cd))))
      (λ h.
      let a = forth p (eqb-true (word f 16 p) 0x4489 h) in
      rw (seven_is (p + 1), seven_is (p + 8), eq-eqb (word f 7 (p + 1)) 0x44 a.0, eq-eqb (word f 7 (p + 8)) 0x44 a.1, none_is p a.2, some_is (p + 15) a.3))

syncs_are : (f : ℕ → ℕ) (q : ℕ) → sync_from (one_at f) (seven_from (one_at f) (alone_at (one_at f))) q ≡ sync_test f q
unfolding sync_test
syncs_are f q = refl

pub sync-stands : (f : ℕ → ℕ) → ((i : ℕ) → f i < 2) → (q : ℕ) → sync_from (one_at f) (seven_from (one_at f) (alone_at (one_at f))) q ≡ stands_at f 0x4489 q
unfolding stands_at
sync-stands f bit q = syncs_are f q ∙ sync-is f bit q

-- the first k cells of a word w of 16 stand at q
unfoldable pub front_stands : (ℕ → ℕ) → (w k : ℕ) → ℕ → Bool
front_stands f w k q = eqb (word f k q) (w / 2 ^ (16 - k))

-- a cell b is the digit d
unfoldable cell_is : (b d : ℕ) → Bool
cell_is b d = cond (eqb d 1) (eqb b 1) (not (eqb b 1))

cell-is : (b d : ℕ) → b < 2 → d < 2 → cell_is b d ≡ eqb b d
unfolding cell_is
cell-is zero zero h g = refl
cell-is zero (suc zero) h g = refl
cell-is zero (suc (suc d)) h g = absurd (omega arith)
cell-is (suc zero) zero h g = refl
cell-is (suc zero) (suc zero) h g = refl
cell-is (suc zero) (suc (suc d)) h g = absurd (omega arith)
cell-is (suc (suc b)) d h g = absurd (omega arith)

-- numbers are equal where both their last digits and what comes before these are
digits_are : (x y b d : ℕ) → b < 2 → d < 2 → (eqb x y && eqb b d) ≡ eqb (2 * x + b) (2 * y + d)
digits_are x y b d h g =
    iff _ _
    (λ e. eq-eqb (2 * x + b) (2 * y + d) (omega (arith, eqb-true x y (and_left (eqb x y) (eqb b d) e), eqb-true b d (and_right (eqb x y) (eqb b d) e))))
    (λ e. let s = eqb-true (2 * x + b) (2 * y + d) e in rw (eq-eqb x y (omega arith), eq-eqb b d (omega arith)))

word_more : (f : ℕ → ℕ) (k q : ℕ) → word f (suc k) q ≡ 2 * word f k q + f (q + k)
unfolding word
word_more f k q = refl

module _ (f : ℕ → ℕ) (bit : (i : ℕ) → f i < 2) (w : ℕ) where
  like_is : (d q : ℕ) → d < 2 → like_at (eqb d 1) (one_at f) q ≡ eqb (f q) d
  unfolding like_at one_at cell_is
  like_is d q h = cell-is (f q) d (bit q) h

  pub front-first : w < 0x1_0000 → (q : ℕ) → like_at (eqb (w / 2 ^ (15 - 0) % 2) 1) (one_at f) q ≡ front_stands f w 1 q
  unfolding front_stands
  front-first h q =
      let d : w / 2 ^ 15 % 2 ≡ w / 2 ^ 15 = omega arith in
      let b : w / 2 ^ 15 < 2 = omega arith in
      rw d (like_is (w / 2 ^ 15) q b ∙ ap (λ (x : ℕ). eqb x (w / 2 ^ 15)) (sym (rw (add-zero q) at (one_cell f q))))

  pub front-more : (k : ℕ) → k < 16 → (q : ℕ) → kept_from k (eqb (w / 2 ^ (15 - k) % 2) 1) (one_at f) (front_stands f w k) q ≡ front_stands f w (k + 1) q
  unfolding kept_from front_stands
  front-more k h q =
      let e : 16 - k ≡ suc (15 - k) = omega arith in
      let g : 16 - (k + 1) ≡ 15 - k = omega arith in
      let d = w / 2 ^ (15 - k) in
      let m : w / 2 ^ (16 - k) ≡ d / 2 = rw (e, pow-suc 2 (15 - k)) (sym (div-div-eq-div-mul w (2 ^ (15 - k)) 2)) in
      let s : 2 * (d / 2) + d % 2 ≡ d = omega arith in
      rw (m, g, like_is (d % 2) (q + k) (omega arith))
      (digits_are (word f k q) (d / 2) (f (q + k)) (d % 2) (bit (q + k)) (omega arith)
      ∙ ap (λ (x : ℕ). eqb (2 * word f k q + f (q + k)) x) s
      ∙ ap (λ (x : ℕ). eqb x d) (sym (rw (add-one k) (word_more f k q))))

  pub front-all : (q : ℕ) → front_stands f w 16 q ≡ stands_at f w q
  unfolding front_stands stands_at
  front-all q = let e : w / 1 ≡ w = omega arith in ap (λ (x : ℕ). eqb (word f 16 q) x) e
