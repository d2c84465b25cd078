-- Timings taken one after another: their answer is the separator's on the list. Assumes nothing.
use Prim.Native.Nat.{ℕ, suc, ◌+◌, ◌*◌, ◌≤◌, ◌<◌}
use mathlib.Core.Path.{◌≡◌, refl, sym, ◌∙◌, ap}
use mathlib.Core.Bool.{Bool, true, false, cond}
use mathlib.Core.List.{List, [], ◌∷◌, ◌++◌}
use native.Mathlib.Omega.{arith}
use borrow.Author.Tests.{lt-ltb, le-ltb, ne_eqb, ltb-false}
use lib.Dec.{ltb, leb-suc-suc}
use lib.IntN.{ℤ, pos}
use lib.ListN.{length, length-append}
use Rattle.cells.specs.CellsAndBytes.{bytes_for}
use Rattle.refusals.specs.RefusedCalls.{Answer}
use Rattle.refusals.specs.RefusedCalls.Answer.{gives, refused}
use Rattle.flux_timings.specs.Timings.{in_range}
use Rattle.separator.specs.Rule.{cells_at, residual_after, double_half_window}
use Rattle.separation.specs.Separation.{cells_for, windows_from, cells_in, cells_of, cells_judged, separation}
use Rattle.flux_timings.specs.Timings.{first_out, timings_judged}
use Rattle.separator.proofs.Lifted.{Kept, kept-none, kept_next}
use Rattle.flux_timings.proofs.Timing.{range-of}
use Rattle.separator.proofs.MachineStep.{cells-small}
use Rattle.separator.proofs.Stepping.{step-refused, step-answers, step-leaves}
use Rattle.separation.proofs.Walk.{length-for, cells_from}
use Rattle.taken_timings.specs.Timings.{timing_cells, taken_step, taken_after, step_cells, taken_cells, timings_answer}
use Rattle.taken_timings.specs.declared.Taken.{Taken}
use Rattle.std.specs.Prelude.{Result, Ok, Err}
use Rattle.taken_timings.proofs.Steps.{count-more}

-- the timings one after another
abbrev pub taken_over : Result Taken ℕ → List ℕ → Result Taken ℕ
taken_over taken [] = taken
taken_over taken (t ∷ ts) = taken_over (taken_after taken t) ts

abbrev pub cells_over : Result Taken ℕ → List ℕ → List ℕ → List ℕ
cells_over taken [] buffer = buffer
cells_over taken (t ∷ ts) buffer = cells_over (taken_after taken t) ts (taken_cells taken t buffer)

-- i timings with `at` cells taken, and the residual r
abbrev pub took_with : ℕ → ℕ → ℤ → Result Taken ℕ
took_with i at r = Ok (record { timings = i; cells = at; separator = record { residual = r } })

-- one timing in range
module _ (i at : ℕ) (r : ℤ) (t : ℕ) (kept : Kept double_half_window r) (ranged : in_range t ≡ true) (small : at ≤ 5000 * i) (few : i < 65536) where
  pub n-small : cells_at double_half_window r t ≤ 5000
  n-small = cells-small (record { low = omega arith; high = omega arith; short = (range-of t ranged).1; kept = kept })

  pub one-taken : taken_after (took_with i at r) t
      ≡ took_with (i + 1) (at + cells_at double_half_window r t) (residual_after double_half_window r t)
  unfolding taken_after taken_step
  one-taken =
      rw (
        step-answers double_half_window r t kept ranged,
        step-leaves double_half_window r t kept ranged,
        ← count-more i 1 (omega arith),
        ← count-more at (cells_at double_half_window r t) (omega arith),
      )

  pub one-cells : (buffer : List ℕ) → taken_cells (took_with i at r) t buffer ≡ timing_cells at (cells_at double_half_window r t) buffer
  unfolding taken_cells step_cells
  one-cells buffer = rw (step-answers double_half_window r t kept ranged)

out-taken : (i at : ℕ) (r : ℤ) (t : ℕ) → in_range t ≡ false → taken_after (took_with i at r) t ≡ Err i
unfolding taken_after taken_step
out-taken i at r t e = rw (← (step-refused double_half_window r t e).0)

stays_out : (index : ℕ) (ts : List ℕ) → taken_over (Err index) ts ≡ Err index
unfolding taken_after
stays_out index [] = refl
stays_out index (t ∷ ts) = stays_out index ts

-- what n cells in all answer
abbrev in_all : ℕ → Answer ℕ
in_all n = cond (ltb 131072 n) (refused 9 n) (gives n)

abbrev told : ℕ → ℕ → ℕ → ℕ → Answer ℕ
told i first count n = cond (ltb first count) (refused 8 (i + first)) (in_all n)

pub first-later : (t : ℕ) (ts : List ℕ) → in_range t ≡ true → first_out (t ∷ ts) ≡ suc (first_out ts)
unfolding first_out
first-later t ts e = rw e

pub first-here : (t : ℕ) (ts : List ℕ) → in_range t ≡ false → first_out (t ∷ ts) ≡ 0
unfolding first_out
first-here t ts e = rw e

cells-more : (r : ℤ) (t : ℕ) (ts : List ℕ) → cells_from r (t ∷ ts) ≡ cells_for (cells_at double_half_window r t) ++ cells_from (residual_after double_half_window r t) ts
unfolding windows_from cells_in
cells-more r t ts = refl

pub length_more : (r : ℤ) (t : ℕ) (ts : List ℕ) → length (cells_from r (t ∷ ts)) ≡ cells_at double_half_window r t + length (cells_from (residual_after double_half_window r t) ts)
length_more r t ts =
    ap length (cells-more r t ts) ∙ length-append (cells_for (cells_at double_half_window r t)) (cells_from (residual_after double_half_window r t) ts)
    ∙ ap (λ (m : ℕ). m + length (cells_from (residual_after double_half_window r t) ts)) (length-for (cells_at double_half_window r t))

told-later : (i first count m n : ℕ) → m ≡ n → told (i + 1) first count m ≡ told i (suc first) (suc count) n
told-later i first count m n e =
    let f : (i + 1) + first ≡ i + suc first = omega arith in
    rw (leb-suc-suc (suc first) count, f, e)

over-answer : (ts : List ℕ) (i at : ℕ) (r : ℤ) → Kept double_half_window r → i + length ts ≤ 65536 → at ≤ 5000 * i
    → timings_answer (taken_over (took_with i at r) ts) ≡ told i (first_out ts) (length ts) (at + length (cells_from r ts))
unfolding timings_answer first_out windows_from cells_in
over-answer [] i at r kept few small = let e : at ≡ at + 0 = omega arith in ap in_all e
over-answer (t ∷ ts) i at r kept few small = go (in_range t) refl (over-answer ts)
  where
    go : (x : Bool) → in_range t ≡ x
        → ((i at : ℕ) (r : ℤ) → Kept double_half_window r → i + length ts ≤ 65536 → at ≤ 5000 * i → timings_answer (taken_over (took_with i at r) ts) ≡ told i (first_out ts) (length ts) (at + length (cells_from r ts)))
        → timings_answer (taken_over (taken_after (took_with i at r) t) ts) ≡ told i (first_out (t ∷ ts)) (suc (length ts)) (at + length (cells_from r (t ∷ ts)))
    go true e more =
        let n = cells_at double_half_window r t in
        let l = n-small i at r t kept e small (omega arith) in
        let m = length_more r t ts in
        let d : (at + n) + length (cells_from (residual_after double_half_window r t) ts) ≡ at + length (cells_from r (t ∷ ts)) = omega arith in
        ap (λ (x : Result Taken ℕ). timings_answer (taken_over x ts)) (one-taken i at r t kept e small (omega arith))
        ∙ more (i + 1) (at + n) (residual_after double_half_window r t) (kept_next 1000 (omega arith) r t kept) (omega arith) (omega arith)
        ∙ told-later i (first_out ts) (length ts) _ _ d
        ∙ ap (λ (x : ℕ). told i x (suc (length ts)) (at + length (cells_from r (t ∷ ts)))) (sym (first-later t ts e))
    go false e more =
        let z : i ≡ i + 0 = omega arith in
        ap (λ (x : Result Taken ℕ). timings_answer (taken_over x ts)) (out-taken i at r t e) ∙ ap timings_answer (stays_out i ts)
        ∙ ap (λ (x : ℕ). refused 8 x) z
        ∙ rw (first-here t ts e, lt-ltb 0 (suc (length ts)) (omega arith))

-- with room for 131,072 cells, 10 does not arise
pub judged-in-room : (n room : ℕ) → 16384 ≤ room → in_all n ≡ cells_judged n room
unfolding cells_judged
judged-in-room n room h = go (ltb 131072 n) refl
  where
    go : (x : Bool) → ltb 131072 n ≡ x → cond x (refused 9 n) (gives n) ≡ cond x (refused 9 n) (cond (ltb room (bytes_for n)) (refused 10 (bytes_for n)) (gives n))
    go true e = refl
    go false e = let k = ltb-false 131072 n e in rw (le-ltb room (bytes_for n) (omega arith))

-- all timings, from the first
module _ (ts : List ℕ) (some : length ts ≡ 0 → ⊥) (few : length ts ≤ 65536) where
  pub separation-judged : (room : ℕ) → separation ts room ≡ cond (ltb (first_out ts) (length ts)) (refused 8 (first_out ts)) (cells_judged (length (cells_of ts)) room)
  unfolding timings_judged
  separation-judged room = rw (ne_eqb (length ts) 0 some, le-ltb 65536 (length ts) few)

  pub separation-is : (room : ℕ) → 16384 ≤ room → cond (ltb (first_out ts) (length ts)) (refused 8 (first_out ts)) (in_all (length (cells_of ts))) ≡ separation ts room
  separation-is room h = rw (separation-judged room, ← judged-in-room (length (cells_of ts)) room h)

  pub taken-answer : timings_answer (taken_over (took_with 0 0 (pos 0)) ts) ≡ separation ts 16384
  taken-answer =
      let i : 0 + first_out ts ≡ first_out ts = omega arith in
      let n : 0 + length (cells_of ts) ≡ length (cells_of ts) = omega arith in
      over-answer ts 0 0 (pos 0) (kept-none 1000 (omega arith)) (omega arith) (omega arith) ∙ rw (i, n) (separation-is 16384 (omega arith))
