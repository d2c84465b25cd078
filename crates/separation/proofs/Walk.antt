-- A walk over timings in range by the steps of either density: the cells passed and those to come. Assumes nothing.
use Prim.Native.Nat.{ℕ, zero, suc, ◌+◌, ◌*◌, ◌≤◌, ◌<◌}
use mathlib.Core.Path.{◌≡◌, refl, sym, ◌∙◌, ap, subst}
use mathlib.Core.Bool.{true}
use mathlib.Core.List.{List, [], ◌∷◌, ◌++◌, append_assoc, append-nil}
use native.Mathlib.Numerals.{add-one}
use native.Mathlib.Omega.{arith}
use Rattle.std.specs.Prelude.{Result, Ok, Err}
use lib.IntN.{ℤ, pos}
use lib.ListN.{length, get_or, drop, replicate, length-append, length-replicate, drop_of_length-le}
use Rattle.cells.proofs.Packing.{Cells}
use Rattle.cells.proofs.Zeros.{cells-append, cells-zeros, cells-one}
use Rattle.refusals.specs.RefusedCalls.Answer.{gives}
use Rattle.refusals.specs.declared.Refusal.{Refusal}
use Rattle.flux_timings.specs.Timings.{in_range, first_out}
use Rattle.separator.specs.Rule.{IsHalfWindow, cells_at, residual_after, double_half_window, taken_answer, step_answer_by, step_residual_by}
use Rattle.separator.specs.declared.Step.{Step}
use Rattle.separation.specs.Separation.{cells_for, windows_from, cells_in, cells_of_by}
use Rattle.separator.proofs.Lifted.{Kept, kept-none, kept_next}
use Rattle.flux_timings.proofs.Timing.{range-of}
use Rattle.separator.proofs.MachineStep.{Steppable, cells-small}
use Rattle.separator.proofs.Stepped.{half-low, half_high}
use Rattle.separator.proofs.Stepping.{step-answers, step-leaves}
use Rattle.flux_timings.proofs.FirstOut.{rest-is, all-in-range}

-- the cells of one timing
pub length-for : (n : ℕ) → length (cells_for n) ≡ n
unfolding cells_for
length-for zero = refl
length-for (suc k) = length-append (replicate k 0) (1 ∷ []) ∙ ap (λ (m : ℕ). m + 1) (length-replicate k 0) ∙ add-one k

pub cells-for : (n : ℕ) → Cells (cells_for n)
unfolding cells_for
cells-for zero i = omega arith
cells-for (suc k) i = cells-append (replicate k 0) (1 ∷ []) (cells-zeros k) cells-one i

-- the cells of the timings ts from the residual r on
abbrev pub cells_from_by : ℕ → ℤ → List ℕ → List ℕ
cells_from_by half r ts = cells_in (windows_from half r ts)

abbrev pub cells_from : ℤ → List ℕ → List ℕ
cells_from r ts = cells_from_by double_half_window r ts

-- i timings of ts passed: their cells, `at` in all, and the residual r that is left
pub record Walked (half : ℕ) (ts : List ℕ) (at : ℕ) (r : ℤ) (i : ℕ) : Type 0 where
  pub passed : List ℕ
  pub bits : Cells passed
  pub long : length passed ≡ at
  pub within : i ≤ length ts
  pub small : at ≤ 5000 * i
  pub kept : Kept half r
  pub split : cells_of_by half ts ≡ passed ++ cells_from_by half r (drop i ts)

pub walk_start : {half : ℕ} → IsHalfWindow half → (ts : List ℕ) {r : ℤ} → r ≡ pos 0 → Walked half ts 0 r 0
walk_start {half} is-half ts e = record {
  passed = [];
  bits = λ i. omega arith;
  long = refl;
  within = omega arith;
  small = omega arith;
  kept = subst (Kept half) (sym e) (kept-none half (omega (arith, half-low is-half)));
  split = ap (λ (z : ℤ). cells_from_by half z ts) (sym e);
}

pub start-passed : {half : ℕ} (is-half : IsHalfWindow half) (ts : List ℕ) {r : ℤ} (e : r ≡ pos 0) → (walk_start is-half ts e).passed ≡ []
unfolding walk_start
start-passed is-half ts e = refl

-- what a turn's step gives: timing i of ts is in range, and from the residual r on it has n cells and leaves the residual r'
pub record Turn (half : ℕ) (ts : List ℕ) (i : ℕ) (r : ℤ) (n : ℕ) (r' : ℤ) : Type 0 where
  pub here : i < length ts
  pub ranged : in_range (get_or ts i 0) ≡ true
  pub cells : n ≡ cells_at half r (get_or ts i 0)
  pub residual : r' ≡ residual_after half r (get_or ts i 0)

-- it follows from what the step promises, where it is in range, and then the step does not refuse
module _ (half : ℕ) (ts : List ℕ) (i : ℕ) (r : ℤ) (all : first_out ts ≡ length ts) (h : i < length ts) (kept : Kept half r) (result : Result Step Refusal)
    (answers : taken_answer result ≡ step_answer_by half r (get_or ts i 0)) where
  gives-cells : taken_answer result ≡ gives (cells_at half r (get_or ts i 0))
  gives-cells = answers ∙ step-answers half r (get_or ts i 0) kept (all-in-range ts all i h)

  pub turn : {step : Step} {r' : ℤ} → result ≡ Ok step → r' ≡ step_residual_by half r (get_or ts i 0) → Turn half ts i r step.cells r'
  turn {step} is leaves =
      let ranged = all-in-range ts all i h in
      record {
        here = h;
        ranged = ranged;
        cells = let g = rw is at gives-cells in cc;
        residual = leaves ∙ step-leaves half r (get_or ts i 0) kept ranged;
      }

  pub no-refusal : ((step : Step) → result ≡ Ok step → ⊥) → ⊥
  no-refusal = go result gives-cells
    where
      go : (x : Result Step Refusal) → taken_answer x ≡ gives (cells_at half r (get_or ts i 0)) → ((step : Step) → x ≡ Ok step → ⊥) → ⊥
      go (Ok step) e none = none step refl
      go (Err refusal) e none = cc

-- one timing more, of n cells, that leaves the residual r'
module _ {half : ℕ} (is-half : IsHalfWindow half) {ts : List ℕ} {at : ℕ} {r : ℤ} {i : ℕ} (w : Walked half ts at r i) {n : ℕ} {r' : ℤ} (t : Turn half ts i r n r') where
  rest : cells_from_by half r (drop i ts) ≡ cells_for n ++ cells_from_by half r' (drop (i + 1) ts)
  unfolding windows_from cells_in
  rest = rw (rest-is ts i t.here, t.cells, t.residual)

  pub walk-small : n ≤ 5000
  walk-small =
      let s : Steppable half (get_or ts i 0) r =
      record { low = half-low is-half; high = half_high is-half; short = (range-of (get_or ts i 0) t.ranged).1; kept = w.kept } in
      omega (arith, t.cells, cells-small s)

  pub walk-next : Walked half ts (at + n) r' (i + 1)
  walk-next =
      let k = walk-small in
      record {
        passed = w.passed ++ cells_for n;
        bits = cells-append w.passed (cells_for n) w.bits (cells-for n);
        long = length-append w.passed (cells_for n) ∙ ap (λ (m : ℕ). m + length (cells_for n)) w.long ∙ ap (λ (m : ℕ). at + m) (length-for n);
        within = omega (arith, t.here);
        small = omega (arith, w.small);
        kept = subst (Kept half) (sym t.residual) (kept_next half (omega (arith, half-low is-half)) r (get_or ts i 0) w.kept);
        split = w.split ∙ ap (λ (l : List ℕ). w.passed ++ l) rest ∙ sym (append_assoc w.passed (cells_for n) _);
      }

  pub next-passed : walk-next.passed ≡ w.passed ++ cells_for n
  unfolding walk-next
  next-passed = refl

-- the cells passed are no more than there are
pub walk-within : {half : ℕ} {ts : List ℕ} {at : ℕ} {r : ℤ} {i : ℕ} → Walked half ts at r i → at ≤ length (cells_of_by half ts)
walk-within {half} {ts} {at} {r} {i} w =
    omega (arith, ap length w.split, length-append w.passed (cells_from_by half r (drop i ts)), w.long)

-- all timings passed
pub walk_end : {half : ℕ} {ts : List ℕ} {at : ℕ} {r : ℤ} {i : ℕ} (w : Walked half ts at r i) → length ts ≤ i → cells_of_by half ts ≡ w.passed
unfolding windows_from cells_in
walk_end {half} {ts} {at} {r} {i} w h = w.split ∙ rw (drop_of_length-le ts h) (append-nil w.passed)
