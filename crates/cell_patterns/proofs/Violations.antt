-- The maps of ones that are too near or too far are those of the violations. Assumes nothing.
use Prim.Native.Nat.{ℕ, suc, ◌+◌, ◌-◌, ◌≤◌}
use mathlib.Core.Path.{◌≡◌, refl, sym, ap, ◌∙◌}
use mathlib.Core.Bool.{Bool, true, false, not, cond, ◌&&◌, ◌||◌}
use native.Mathlib.Omega.{arith}
use borrow.Author.Tests.{lt-ltb, le-ltb}
use lib.Dec.{ltb}
use Rattle.basis.specs.Search.{least}
use Rattle.basis.proofs.Search.{least-low}
use Rattle.cell_words.specs.Tests.{one_at, alone_at, gap_from}
use Rattle.layouts.specs.Layouts.{double_density, single_density}
use Rattle.cell_patterns.specs.Cells.{is_one, next_one, violation}

-- the next one, where the next few places tell
gap-rule : (o a b c d : Bool) → ((o && a) || ((o && not (a || b)) && not (c || d))) ≡ (o && (a || not (((a || b) || c) || d)))
gap-rule false a b c d = refl
gap-rule true true b c d = refl
gap-rule true false true c d = refl
gap-rule true false false true d = refl
gap-rule true false false false d = refl

distances : (p r k near far : ℕ) (x : Bool) → r - p ≡ k → x ≡ (ltb k near || ltb far k) → x ≡ (ltb (r - p) near || ltb far (r - p))
distances p r k near far x e h = rw e h

double-near : (a b c d : Bool) (p r : ℕ) → p + 5 ≤ r
    → (a || not (((a || b) || c) || d))
    ≡ (ltb (cond a (p + 1) (cond b (p + 2) (cond c (p + 3) (cond d (p + 4) r))) - p) 2 || ltb 4 (cond a (p + 1) (cond b (p + 2) (cond c (p + 3) (cond d (p + 4) r))) - p))
double-near true b c d p r h = distances p (p + 1) 1 2 4 true (omega arith) refl
double-near false true c d p r h = distances p (p + 2) 2 2 4 false (omega arith) refl
double-near false false true d p r h = distances p (p + 3) 3 2 4 false (omega arith) refl
double-near false false false true p r h = distances p (p + 4) 4 2 4 false (omega arith) refl
double-near false false false false p r h =
    let l = lt-ltb 4 (r - p) (omega arith) in
    let g = le-ltb (r - p) 2 (omega arith) in
    rw (l, g)

single-near : (a b : Bool) (p r : ℕ) → p + 3 ≤ r → not (a || b) ≡ (ltb (cond a (p + 1) (cond b (p + 2) r) - p) 1 || ltb 2 (cond a (p + 1) (cond b (p + 2) r) - p))
single-near true b p r h = distances p (p + 1) 1 1 2 false (omega arith) refl
single-near false true p r h = distances p (p + 2) 2 1 2 false (omega arith) refl
single-near false false p r h =
    let l = lt-ltb 2 (r - p) (omega arith) in
    let g = le-ltb (r - p) 1 (omega arith) in
    rw (l, g)

next-of-two : (t : ℕ → Bool) (m p : ℕ) → least t (suc (suc m)) (p + 1) ≡ cond (t (p + 1)) (p + 1) (cond (t (p + 2)) (p + 2) (least t m (p + 3)))
unfolding least
next-of-two t m p =
    let e2 : p + 1 + 1 ≡ p + 2 = omega arith in
    let e3 : p + 2 + 1 ≡ p + 3 = omega arith in
    rw (e2, e3)

next-of-four : (t : ℕ → Bool) (m p : ℕ)
    → least t (suc (suc (suc (suc m)))) (p + 1) ≡ cond (t (p + 1)) (p + 1) (cond (t (p + 2)) (p + 2) (cond (t (p + 3)) (p + 3) (cond (t (p + 4)) (p + 4) (least t m (p + 5)))))
unfolding least
next-of-four t m p =
    let e2 : p + 1 + 1 ≡ p + 2 = omega arith in
    let e3 : p + 2 + 1 ≡ p + 3 = omega arith in
    let e4 : p + 3 + 1 ≡ p + 4 = omega arith in
    let e5 : p + 4 + 1 ≡ p + 5 = omega arith in
    rw (e2, e3, e4, e5)

pub double-is : (f : ℕ → ℕ) (n p : ℕ) → 4 ≤ n → gap_from (one_at f) (alone_at (one_at f)) p ≡ violation double_density f n p
unfolding gap_from alone_at one_at violation next_one is_one double_density
double-is f n p h =
    let e : n ≡ suc (suc (suc (suc (n - 4)))) = omega arith in
    let t = is_one f in
    gap-rule (t p) (t (p + 1)) (t (p + 2)) (t (p + 3)) (t (p + 4))
    ∙ ap (λ (x : Bool). t p && x) (double-near (t (p + 1)) (t (p + 2)) (t (p + 3)) (t (p + 4)) p (least t (n - 4) (p + 5)) (least-low t (n - 4) (p + 5)))
    ∙ ap (λ (x : ℕ). t p && (ltb (x - p) 2 || ltb 4 (x - p))) (sym (next-of-four t (n - 4) p) ∙ ap (λ (k : ℕ). least t k (p + 1)) (sym e))

pub single-is : (f : ℕ → ℕ) (n p : ℕ) → 4 ≤ n → alone_at (one_at f) p ≡ violation single_density f n p
unfolding alone_at one_at violation next_one is_one single_density
single-is f n p h =
    let e : n ≡ suc (suc (n - 2)) = omega arith in
    let t = is_one f in
    ap (λ (x : Bool). t p && x) (single-near (t (p + 1)) (t (p + 2)) p (least t (n - 2) (p + 3)) (least-low t (n - 2) (p + 3)))
    ∙ ap (λ (x : ℕ). t p && (ltb (x - p) 1 || ltb 2 (x - p))) (sym (next-of-two t (n - 2) p) ∙ ap (λ (k : ℕ). least t k (p + 1)) (sym e))
