-- Demand 3, from the answer of the call on a list and the buffer that it leaves, by the tolerance law. Assumes nothing.
use Prim.Native.Nat.{ℕ}
use mathlib.Core.Path.{◌≡◌, refl, ◌∙◌, ap}
use mathlib.Core.List.{List, [], ◌∷◌}
use native.Mathlib.Omega.{arith}
use borrow.Author.Tests.{le-ltb}
use lib.ListN.{length, length-append}
use Rattle.refusals.specs.RefusedCalls.{Answer}
use Rattle.separation.specs.Separation.{cells_for, separation, separated_cells}
use Rattle.flux_timings.specs.Timings.{timings_judged}
use Rattle.separation.specs.Demand3.{Reversal, cells_written, cells_in_all, refusal_table, farthest_centre, Demand3}
use Rattle.separation.proofs.Walk.{length-for}
use Rattle.separation.proofs.Recovery.{tolerance}

length-written : (vs : List Reversal) → length (cells_written vs) ≡ cells_in_all vs
unfolding cells_written cells_in_all
length-written [] = refl
length-written (v ∷ vs) = omega (arith, length-append (cells_for v.gap) (cells_written vs), length-for v.gap, length-written vs)

module _ (ts before : List ℕ) {after : List ℕ} {answer : Answer ℕ} (is-answer : answer ≡ separation ts (length before)) (is-after : after ≡ separated_cells ts before) where
  pub demand3 : Demand3 ts answer before after
  unfolding timings_judged refusal_table
  demand3 = record {
    recovers = λ D J ok p q vs within.
        let f = tolerance D J (farthest_centre D J) (omega arith) (omega arith) within.0 within.1 in
        let n = ap length f.cells ∙ length-written vs in
        record {
          refusal = is-answer ∙ rw (f.in-range, le-ltb (length ts) (length ts) (omega arith), n);
          cells = is-after ∙ rw (is-answer, f.cells);
          centres = f.centres;
        };
    no_border_pulses = λ D J quiet p q vs within.
        (tolerance D J (farthest_centre D J) (omega arith) (omega arith) within.0 within.1).no_borders (omega arith);
  }
