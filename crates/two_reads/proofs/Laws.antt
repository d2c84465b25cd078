-- What follows of kind 22 from the definitions: two reads that are accepted have no finding exactly where they are equal. Assumes nothing.
use Prim.Native.Nat.{ℕ, ◌≤◌, zero-le}
use mathlib.Core.Path.{◌≡◌, refl}
use mathlib.Core.Bool.{Bool, true, false, cond}
use mathlib.Core.List.{List}
use native.Mathlib.Omega.{arith}
use borrow.Author.Tests.{eqb-true, ltb-false, le-ltb, eq-eqb, not-false}
use lib.Dec.{eqb, ltb}
use lib.ListN.{length, get_or}
use lib.Seq.{ext_get_or}
use Rattle.basis.proofs.Search.{least-before, least-none}
use Rattle.refusals.specs.RefusedCalls.{refused_with}
use Rattle.refusals.specs.RefusedCalls.Answer.{gives}
use Rattle.refusals.specs.declared.Refusal.TheVariants.{LengthsDiffer, NotASectorLength}
use Rattle.two_reads.specs.Comparison.{is_read_length, pair_judged, differ_at, first_difference, comparison}

accepted-same : (first second : List ℕ) → length first ≡ length second → is_read_length (length first) ≡ true → first_difference first second ≡ length first
    → comparison first second ≡ gives 0
unfolding comparison pair_judged
accepted-same first second e h d = rw (eq-eqb _ _ e, h, le-ltb (first_difference first second) (length first) (omega arith)) refl

-- a read beside itself has no finding
pub equal-reads : (read : List ℕ) → is_read_length (length read) ≡ true → comparison read read ≡ gives 0
unfolding first_difference
equal-reads read h = accepted-same read read refl h none
  where
    none : first_difference read read ≡ length read
    none = let e = least-none (differ_at read read) (length read) 0 (λ q l. rw (eq-eqb (get_or read q 0) (get_or read q 0) refl)) in omega arith

-- where a search that starts at 0 comes to the end, the bytes at each index are the same
all-equal : (first second : List ℕ) → length first ≡ length second → length first ≤ first_difference first second → first ≡ second
unfolding first_difference
all-equal first second e h =
    ext_get_or 0 first second e (λ i l. eqb-true _ _ (not-false _ (least-before (differ_at first second) (length first) 0 i zero-le (omega arith))))

-- reads without a finding are equal
pub no-finding-means-equal : (first second : List ℕ) → comparison first second ≡ gives 0 → first ≡ second
unfolding comparison pair_judged
no-finding-means-equal first second h =
    go (eqb (length first) (length second)) (is_read_length (length first)) (ltb (first_difference first second) (length first)) refl refl h
  where
    go : (a b c : Bool) → eqb (length first) (length second) ≡ a → ltb (first_difference first second) (length first) ≡ c
        → cond a (cond b (gives (cond {A = ℕ} c 1 0)) (refused_with NotASectorLength)) (refused_with LengthsDiffer) ≡ gives 0 → first ≡ second
    go false b c p q e = let z : ◌≡◌ {A = ℕ} 0 1 = cc in absurd (omega arith)
    go true false c p q e = let z : ◌≡◌ {A = ℕ} 0 1 = cc in absurd (omega arith)
    go true true true p q e = let z : ◌≡◌ {A = ℕ} 0 1 = cc in absurd (omega arith)
    go true true false p q e = all-equal first second (eqb-true _ _ p) (ltb-false _ _ q)
