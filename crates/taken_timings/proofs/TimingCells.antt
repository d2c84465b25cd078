-- The cells of timings that the separator accepts, put one timing after another: from zeros, the buffer has them packed. Assumes nothing.
use Prim.Native.Nat.{ℕ, zero, suc, ◌+◌, ◌-◌, ◌*◌, ◌≤◌}
use mathlib.Core.Path.{◌≡◌, refl, sym, ◌∙◌, ap}
use mathlib.Core.Bool.{Bool, true, false, cond}
use mathlib.Core.List.{List, [], ◌∷◌, ◌++◌, append_assoc, append-nil}
use native.Mathlib.Omega.{arith}
use borrow.Author.Tests.{lt-ltb, ltb-false}
use lib.Dec.{eqb, ltb}
use lib.IntN.{ℤ, pos}
use lib.ListN.{length, length-append, drop, replicate, length-replicate}
use Rattle.cells.specs.CellsAndBytes.{bytes_for, with_one, packed, cleared}
use Rattle.cells.proofs.Packing.{Cells}
use Rattle.cells.proofs.Zeros.{cells-append}
use Rattle.refusals.specs.RefusedCalls.{Answer}
use Rattle.refusals.specs.RefusedCalls.Answer.{gives, refused}
use Rattle.flux_timings.specs.Timings.{in_range}
use Rattle.separator.specs.Rule.{cells_at, residual_after, double_half_window}
use Rattle.separation.specs.Separation.{cells_for, windows_from, cells_in, cells_of, separation}
use Rattle.flux_timings.specs.Timings.{first_out}
use Rattle.separator.proofs.Lifted.{Kept, kept-none, kept_next}
use Rattle.separation.proofs.Walk.{length-for, cells-for, cells_from}
use Rattle.separation.proofs.Writing.{front_of, front-with-timing, front-cleared, front-whole}
use Rattle.taken_timings.specs.Timings.{timing_cells, taken_after, taken_cells}
use Rattle.std.specs.Prelude.{Result}
use Rattle.taken_timings.specs.declared.Taken.{Taken}
use Rattle.taken_timings.proofs.Steps.{count-more}
use native.Mathlib.Nat.{min-eq_left}
use Rattle.basis.specs.Lists.{written_over}
use Rattle.flux_timings.proofs.FirstOut.{out_within}
use Rattle.taken_timings.proofs.Taking.{cells_over, took_with, n-small, one-taken, one-cells, first-later, first-here, length_more, separation-is}

-- an answer is not both a refusal and accepted
pub never : {A X : Type 0} {number value : ℕ} {given : A} → ◌≡◌ {A = Answer A} (refused number value) (gives given) → X
never e = let z : ◌≡◌ {A = ℕ} 0 1 = cc in let y : ⊥ = omega arith in absurd y

-- the cells of a timing within 131,072 cells
within-most : (at n : ℕ) (buffer : List ℕ) → at + n ≤ 131072 → timing_cells at n buffer ≡ cond (eqb n 0) buffer (with_one buffer (at + (n - 1)))
unfolding timing_cells
within-most at zero buffer h = refl
within-most at (suc k) buffer h = rw (← count-more at (suc k - 1) (omega arith), lt-ltb (at + (suc k - 1)) 131072 (omega arith))

module _ (needed : ℕ) (most : needed ≤ 16384) (rest : List ℕ) where
  abbrev pub OverCells : List ℕ → Type 0
  OverCells ts =
      (i at : ℕ) (r : ℤ) (q : List ℕ) → Kept double_half_window r → i + length ts ≤ 65536 → at ≤ 5000 * i → length q ≡ at → Cells q → first_out ts ≡ length ts
      → at + length (cells_from r ts) ≤ 8 * needed → cells_over (took_with i at r) ts (front_of q needed rest) ≡ front_of (q ++ cells_from r ts) needed rest

  pub over-cells : (ts : List ℕ) → OverCells ts
  unfolding windows_from cells_in
  over-cells [] i at r q kept few small long bits all fits = ap (λ (x : List ℕ). front_of x needed rest) (sym (append-nil q))
  over-cells (t ∷ ts) i at r q kept few small long bits all fits = go (in_range t) refl (over-cells ts)
    where
      go : (x : Bool) → in_range t ≡ x → OverCells ts
          → cells_over (taken_after (took_with i at r) t) ts (taken_cells (took_with i at r) t (front_of q needed rest)) ≡ front_of (q ++ cells_from r (t ∷ ts)) needed rest
      go true e more =
          let n = cells_at double_half_window r t in
          let r' = residual_after double_half_window r t in
          let l = n-small i at r t kept e small (omega arith) in
          let m = length_more r t ts in
          let f = first-later t ts e in
          ap (λ (x : Result Taken ℕ). cells_over x ts (taken_cells (took_with i at r) t (front_of q needed rest))) (one-taken i at r t kept e small (omega arith))
          ∙ ap (cells_over (took_with (i + 1) (at + n) r') ts)
          (one-cells i at r t kept e small (omega arith) (front_of q needed rest) ∙ within-most at n (front_of q needed rest) (omega arith)
          ∙ front-with-timing q bits needed rest at n long (omega arith))
          ∙ more (i + 1) (at + n) r' (q ++ cells_for n) (kept_next 1000 (omega arith) r t kept) (omega arith) (omega arith)
          (length-append q (cells_for n) ∙ ap (λ (x : ℕ). x + length (cells_for n)) long ∙ ap (λ (x : ℕ). at + x) (length-for n))
          (cells-append q (cells_for n) bits (cells-for n)) (omega arith) (omega arith)
          ∙ ap (λ (x : List ℕ). front_of x needed rest) (append_assoc q (cells_for n) (cells_from r' ts))
      go false e more = let z : ⊥ = omega (arith, first-here t ts e) in absurd z

abbrev pub zeros : ℕ → List ℕ
zeros room = replicate room 0

-- zeros are a buffer whose front is cleared
zeros-split : (k room : ℕ) → k ≤ room → zeros room ≡ zeros k ++ drop k (zeros room)
zeros-split zero room h = refl
zeros-split (suc k) zero h = absurd (omega arith)
zeros-split (suc k) (suc room) h = ap (λ (x : List ℕ). 0 ∷ x) (zeros-split k room (omega arith))

zeros-cleared : (k room : ℕ) → k ≤ room → zeros room ≡ cleared k (zeros room)
unfolding cleared
zeros-cleared k room h = rw (length-replicate {A = ℕ} room 0, min-eq_left h, length-replicate {A = ℕ} k 0) (zeros-split k room h)

-- timings that the separator accepts, with the number of their cells
pub record Accepted (ts : List ℕ) (count : ℕ) : Type 0 where
  pub counted : count ≡ length (cells_of ts)
  pub all : first_out ts ≡ length ts
  pub few : length (cells_of ts) ≤ 131072

pub accepted : (ts : List ℕ) → (length ts ≡ 0 → ⊥) → length ts ≤ 65536 → {count : ℕ} → separation ts 16384 ≡ gives count → Accepted ts count
accepted ts some small {count} e =
    go (ltb (first_out ts) (length ts)) (ltb 131072 (length (cells_of ts))) refl refl (separation-is ts some small 16384 (omega arith) ∙ e)
  where
    go : (x y : Bool) → ltb (first_out ts) (length ts) ≡ x → ltb 131072 (length (cells_of ts)) ≡ y
        → cond x (refused 8 (first_out ts)) (cond y (refused 9 (length (cells_of ts))) (gives (length (cells_of ts)))) ≡ gives count → Accepted ts count
    go true y a b e = never e
    go false true a b e = never e
    go false false a b e =
        let h = ltb-false (first_out ts) (length ts) a in
        record { counted = cc; all = omega (arith, out_within ts); few = ltb-false 131072 (length (cells_of ts)) b }

-- the cells of accepted timings, from zeros
pub timings-filled : (room : ℕ) → 16384 ≤ room → (ts : List ℕ) → length ts ≤ 65536 → {count : ℕ} → Accepted ts count
    → cells_over (took_with 0 0 (pos 0)) ts (zeros room) ≡ written_over (packed (cells_of ts)) (zeros room)
timings-filled room big ts small ok =
    let needed = bytes_for (length (cells_of ts)) in
    let k = ok.few in
    let h : needed ≤ room = omega arith in
    let l : length (zeros room) ≡ room = length-replicate room 0 in
    ap (cells_over (took_with 0 0 (pos 0)) ts) (front-cleared needed (zeros room) (omega arith) (zeros-cleared needed room h))
    ∙ over-cells needed (omega arith) (drop needed (zeros room)) ts 0 0 (pos 0) [] (kept-none 1000 (omega arith)) (omega arith) (omega arith) refl
    (λ i. omega arith) ok.all (omega arith)
    ∙ front-whole (cells_of ts) needed (zeros room) refl
