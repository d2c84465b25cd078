-- The converter answers what the old reader gave, but for 2 where there are no cells. Assumes nothing.
use Prim.Native.Nat.{ℕ, ◌+◌, ◌*◌, ◌≤◌, ◌<◌}
use mathlib.Core.Path.{◌≡◌, refl, sym, ◌∙◌, ap}
use mathlib.Core.Bool.{Bool, true, false, cond, not, ◌&&◌, ◌||◌}
use mathlib.Core.List.{List}
use native.Mathlib.Decide.{dec_le}
use native.Mathlib.Nat.{lt_of_not-le}
use native.Mathlib.Omega.{arith}
use borrow.Author.Tests.{lt-leb, le-leb, ne_eqb, eqb-true}
use lib.Dec.{eqb, leb, ltb}
use lib.ListN.{length, drop, length-drop}
use Rattle.basis.specs.Bytes.{number}
use Rattle.basis.proofs.Bools.{and-false}
use Rattle.cells.specs.CellsAndBytes.{bytes_for}
use Rattle.refusals.specs.RefusedCalls.{Answer}
use Rattle.refusals.specs.RefusedCalls.Answer.{gives, refused}
use Rattle.separation.specs.Separation.{separation}
use Rattle.track_file.specs.TrackFile.{Content, track_of, side_of, cell_section, cell_count, has_count, place_count_refused}
use Rattle.flux_file.specs.FluxFile.{numbers, flux_section, flux_count, timings, cells_refused, given_at_once, not_a_flux_file, some_cells, placed, flux_answer}
use Rattle.conversion_laws.specs.OldListing.{old_not_a_track_file, old_answer}
use Rattle.conversion_laws.specs.Claims.{without_no_cells}

-- the old answer, with the number of cells n and the bytes fs behind them as its arguments
abbrev old_from : (file : List ℕ) (n : ℕ) (fs : List ℕ) → Answer Content
old_from file n fs =
    cond (place_count_refused file) (refused 15 0)
    (cond (has_count (cell_section file) && ltb 131072 n) (refused 2 n)
    (cond (has_count fs && ltb 65536 (number fs)) (refused 7 (number fs))
    (cond (cond (eqb n 0) (eqb (number fs) 0) (not (eqb (number fs) 0)) || not (eqb (length file) (14 + bytes_for n + 4 * number fs))) (refused 15 0)
    (placed (track_of file) (side_of file) (cond (eqb (number fs) 0) (gives n) (separation (numbers (number fs) (drop 4 fs)) 16384))))))

old-is : (file : List ℕ) → old_answer file ≡ old_from file (cell_count file) (drop (bytes_for (cell_count file)) (drop 4 (cell_section file)))
unfolding old_answer old_not_a_track_file
old-is file = refl

-- no cells
pub some-cells : (track side : ℕ) (answer : Answer ℕ) → placed track side (some_cells answer) ≡ without_no_cells (placed track side answer)
unfolding placed some_cells without_no_cells
some-cells track side (gives n) = go (eqb n 0)
  where
    go : (x : Bool) → placed track side (cond x (refused 2 0) (gives n)) ≡ cond x (refused 2 0) (gives (record { track = track; side = side; cells = n }))
    go true = refl
    go false = refl
some-cells track side (refused number value) = refl

-- where the count of cells is there and is 0, both judge the same
both-judged : (track side k : ℕ) (timed : Answer ℕ) (a b c d : Bool)
    → cond a (refused 15 0) (cond b (refused 7 k) (cond (c || d) (refused 15 0) (placed track side (some_cells timed))))
    ≡ without_no_cells (cond a (refused 15 0) (cond b (refused 7 k) (cond (c || d) (refused 15 0) (placed track side (cond c (gives 0) timed)))))
unfolding without_no_cells
both-judged track side k timed true b c d = refl
both-judged track side k timed false true c d = refl
both-judged track side k timed false false true d = refl
both-judged track side k timed false false false true = refl
both-judged track side k timed false false false false = some-cells track side timed

or-true : (x : Bool) → (x || true) ≡ true
or-true true = refl
or-true false = refl

not-true : (x : Bool) → not x ≡ false → x ≡ true
not-true true e = refl
not-true false e = cc

second : (x y : Bool) → x ≡ true → (x && y) ≡ false → y ≡ false
second true y e f = f
second false y e f = cc

-- a count that is there and not refused is 0
pub none-counted : (file : List ℕ) → cells_refused file ≡ false → 4 ≤ length (cell_section file) → cell_count file ≡ 0
none-counted file e h =
    eqb-true (cell_count file) 0
    (not-true (eqb (cell_count file) 0)
    (second (has_count (cell_section file)) (not (eqb (cell_count file) 0)) (le-leb 4 (length (cell_section file)) h) e))

-- so what stands behind the cells are the counts and the timings of an old flux file
pub same-flux : (file : List ℕ) → cell_count file ≡ 0 → drop (bytes_for (cell_count file)) (drop 4 (cell_section file)) ≡ flux_section file
same-flux file e = ap (λ (n : ℕ). drop (bytes_for n) (drop 4 (cell_section file))) e

module _ (file : List ℕ) (none : cells_refused file ≡ false) where
  counted : cell_count file ≡ 0 → flux_answer file ≡ without_no_cells (old_answer file)
  unfolding flux_answer given_at_once not_a_flux_file
  counted e =
      let fs = flux_section file in
      let k = flux_count file in
      let old : old_answer file ≡ old_from file 0 fs =
      old-is file ∙ ap (λ (n : ℕ). old_from file n (drop (bytes_for n) (drop 4 (cell_section file)))) e in
      let plain : old_from file 0 fs
      ≡ cond (place_count_refused file) (refused 15 0)
      (cond (has_count fs && ltb 65536 k) (refused 7 k)
      (cond (eqb k 0 || not (eqb (length file) (14 + 4 * k))) (refused 15 0)
      (placed (track_of file) (side_of file) (cond (eqb k 0) (gives 0) (separation (timings file) 16384))))) =
      rw (and-false (has_count (cell_section file))) in
      rw none
      (both-judged (track_of file) (side_of file) k (separation (timings file) 16384) (place_count_refused file) (has_count fs && ltb 65536 k) (eqb k 0)
      (not (eqb (length file) (14 + 4 * k)))
      ∙ ap without_no_cells (sym (old ∙ plain)))

  -- without a count of cells the file is short
  short : length (cell_section file) < 4 → flux_answer file ≡ without_no_cells (old_answer file)
  unfolding flux_answer given_at_once not_a_flux_file without_no_cells
  short h =
      let cs = cell_section file in
      let fs = drop (bytes_for (cell_count file)) (drop 4 cs) in
      let l = length-drop 6 file in
      let m = length-drop 4 cs in
      let m' = length-drop (bytes_for (cell_count file)) (drop 4 cs) in
      let new : flux_answer file ≡ cond (place_count_refused file) (refused 15 0) (refused 15 0) =
      rw (
        lt-leb 4 (length cs) h,
        lt-leb 4 (length (flux_section file)) (omega arith),
        ne_eqb (length file) (14 + 4 * flux_count file) (λ e. omega arith),
        or-true (eqb (flux_count file) 0),
      ) in
      let old : old_from file (cell_count file) fs ≡ cond (place_count_refused file) (refused 15 0) (refused 15 0) =
      rw (
        lt-leb 4 (length cs) h,
        lt-leb 4 (length fs) (omega arith),
        ne_eqb (length file) (14 + bytes_for (cell_count file) + 4 * number fs) (λ e. omega arith),
        or-true (cond (eqb (cell_count file) 0) (eqb (number fs) 0) (not (eqb (number fs) 0))),
      ) in
      new ∙ go (place_count_refused file) ∙ ap without_no_cells (sym (old-is file ∙ old))
    where
      go : (x : Bool) → cond x (refused 15 0) (refused 15 0) ≡ without_no_cells (cond x (refused 15 0) (refused 15 0))
      go true = refl
      go false = refl

  pub same_answer : flux_answer file ≡ without_no_cells (old_answer file)
  same_answer = go (dec_le 4 (length (cell_section file)))
    where
      go : Dec (4 ≤ length (cell_section file)) → flux_answer file ≡ without_no_cells (old_answer file)
      go (yes h) = counted (none-counted file none h)
      go (no h) = short (lt_of_not-le h)
