-- Bytes written one after the other. Assumes nothing.
use Prim.Native.Nat.{ℕ, suc, ◌+◌, ◌≤◌}
use mathlib.Core.Path.{◌≡◌, refl, sym, ap, ◌∙◌}
use mathlib.Core.List.{List, [], ◌∷◌, ◌++◌}
use native.Mathlib.Nat.{add-zero}
use native.Mathlib.Omega.{arith}
use lib.ListN.{length, take, set, length-append}
use lib.Seq.{sets}
use Rattle.basis.specs.Lists.{written_over}
use Rattle.lines.specs.Lines.{out_after}
use Rattle.lines.specs.Writing.{Wrote}

sets_more : (l : List ℕ) (i : ℕ) (xs ys : List ℕ) → sets (sets l i xs) (i + length xs) ys ≡ sets l i (xs ++ ys)
sets_more l i [] ys = rw (add-zero i)
sets_more l i (x ∷ xs) ys =
    let e : i + suc (length xs) ≡ suc i + length xs = omega arith in
    rw e (sets_more (set l i x) (suc i) xs ys)

-- some bytes, and then more
pub ◌then◌ : {a b c : List ℕ} {i j k m n : ℕ} {xs ys : List ℕ} → Wrote a i xs m b j → Wrote b j ys n c k → Wrote a i (xs ++ ys) (m + n) c k
◌then◌ {a} {b} {c} {i} {j} {k} {m} {n} {xs} {ys} first second =
    let l = length-append xs ys in
    record {
      bytes = second.bytes ∙ rw (first.bytes, first.place) (sets_more a i xs ys);
      place = omega (arith, first.place, second.place);
      few = omega (arith, first.few, second.few);
    }

infixl 4 ◌then◌
-- no bytes
pub none : (l : List ℕ) (i m : ℕ) → Wrote l i [] m l i
none l i m = record { bytes = refl; place = sym (add-zero i); few = omega arith }

-- with a larger bound
pub wrote-few : {a b : List ℕ} {i j m n : ℕ} {xs : List ℕ} → m ≤ n → Wrote a i xs m b j → Wrote a i xs n b j
wrote-few h w = record { bytes = w.bytes; place = w.place; few = omega (arith, w.few) }

-- written from place 0 on
sets-cons : (x : ℕ) (l : List ℕ) (i : ℕ) (vs : List ℕ) → sets (x ∷ l) (suc i) vs ≡ x ∷ sets l i vs
sets-cons x l i [] = refl
sets-cons x l i (v ∷ vs) = sets-cons x (set l i v) (suc i) vs

sets-none : (i : ℕ) (vs : List ℕ) → sets [] i vs ≡ []
sets-none i [] = refl
sets-none i (v ∷ vs) = sets-none (suc i) vs

sets-front : (l vs : List ℕ) → sets l 0 vs ≡ written_over (take (length l) vs) l
sets-front [] vs = sets-none 0 vs
sets-front (x ∷ l) [] = refl
sets-front (x ∷ l) (v ∷ vs) = sets-cons v l 0 vs ∙ ap (λ (r : List ℕ). v ∷ r) (sets-front l vs)

-- what the public functions promise
module _ {before made after : List ℕ} {most next : ℕ} (w : Wrote before 0 made most after next) where
  pub answer_is : next ≡ length made
  answer_is = w.place ∙ omega arith

  pub answer-few : next ≤ most
  answer-few = omega (arith, w.place, w.few)

  pub out_is : after ≡ out_after made before
  out_is = w.bytes ∙ sets-front before made

  pub promised : (next ≡ length made) × (after ≡ out_after made before)
  promised = (answer_is, out_is)

-- and back
pub wrote-front : {before made after : List ℕ} {next : ℕ} (most : ℕ) → length made ≤ most → next ≡ length made → after ≡ out_after made before
    → Wrote before 0 made most after next
wrote-front {before} {made} {after} {next} most few answer out =
    record { bytes = out ∙ sym (sets-front before made); place = answer ∙ omega arith; few = few }
