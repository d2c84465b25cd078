-- A file that is accepted: its place, its timings and its number of cells. Assumes nothing.
use Prim.Native.Nat.{ℕ, ◌≤◌}
use mathlib.Core.Path.{◌≡◌, refl, sym, ◌∙◌, ap}
use mathlib.Core.Bool.{Bool, true, false, cond, not, ◌&&◌, ◌||◌}
use mathlib.Core.List.{List}
use native.Mathlib.Omega.{arith}
use borrow.Author.Tests.{le-leb, eqb-true, eqb-false, ltb-false}
use lib.Dec.{eqb, ltb}
use lib.ListN.{length, drop, length-drop}
use Rattle.basis.proofs.Bools.{or_left, or_right}
use Rattle.refusals.specs.RefusedCalls.{Answer}
use Rattle.refusals.specs.RefusedCalls.Answer.{gives, refused}
use Rattle.flux_timings.specs.Timings.{first_out}
use Rattle.separation.specs.Separation.{cells_of, separation}
use Rattle.taken_timings.proofs.TimingCells.{never, accepted}
use Rattle.track_file.specs.TrackFile.{Content, track_of, side_of, cell_section, has_count, place_count_refused}
use Rattle.flux_file.specs.FluxFile.{flux_section, flux_count, timings, flux_file_length, cells_refused, flux_count_refused, given_at_once, refused_at_once, not_a_flux_file, some_cells, placed, flux_answer}
use Rattle.flux_file.proofs.Staged.{length-numbers}

-- a file that is not refused before its timings are judged
pub record WholeFlux (file : List ℕ) : Type 0 where
  pub some : length (timings file) ≡ 0 → ⊥
  pub few : length (timings file) ≤ 65536
  pub whole : length file ≡ flux_file_length file
  pub counted : length (timings file) ≡ flux_count file

not-false : (x : Bool) → not x ≡ false → x ≡ true
not-false true e = refl
not-false false e = cc

second : (x y : Bool) → x ≡ true → (x && y) ≡ false → y ≡ false
second true y e f = f
second false y e f = cc

pub whole-flux : (file : List ℕ) → flux_count_refused file ≡ false → not_a_flux_file file ≡ false → WholeFlux file
unfolding not_a_flux_file
whole-flux file seven fifteen =
    let count = length-numbers (flux_count file) (drop 4 (flux_section file)) in
    let some = eqb-false (flux_count file) 0 (or_left (eqb (flux_count file) 0) (not (eqb (length file) (flux_file_length file))) fifteen) in
    let long = eqb-true (length file) (flux_file_length file)
    (not-false (eqb (length file) (flux_file_length file)) (or_right (eqb (flux_count file) 0) (not (eqb (length file) (flux_file_length file))) fifteen)) in
    let l = length-drop 6 file in
    let m = length-drop 4 (cell_section file) in
    let there = le-leb 4 (length (flux_section file)) (omega arith) in
    let few = ltb-false 65536 (flux_count file) (second (has_count (flux_section file)) (ltb 65536 (flux_count file)) there seven) in
    record { some = λ e. some (sym count ∙ e); few = omega arith; whole = long; counted = count }

-- where no refusal is given before, the timings are judged
pub timings-judged : (file : List ℕ) → refused_at_once file ≡ false → not_a_flux_file file ≡ false
    → flux_answer file ≡ placed (track_of file) (side_of file) (some_cells (separation (timings file) 16384))
unfolding flux_answer given_at_once refused_at_once
timings-judged file at_once fifteen = go (place_count_refused file) (cells_refused file) (flux_count_refused file) (not_a_flux_file file) at_once fifteen
  where
    go : (a b c d : Bool) → (a || (b || c)) ≡ false → d ≡ false
        → cond a (refused 15 0) (cond b (refused 15 0) (cond c (refused 7 (flux_count file)) (cond d (refused 15 0) (placed (track_of file) (side_of file) (some_cells (separation (timings file) 16384))))))
        ≡ placed (track_of file) (side_of file) (some_cells (separation (timings file) 16384))
    go true b c d e f = cc
    go false true c d e f = cc
    go false false true d e f = cc
    go false false false true e f = cc
    go false false false false e f = refl

-- what an accepted file gives
pub record Accepts (file : List ℕ) (content : Content) : Type 0 where
  pub flux : WholeFlux file
  pub all : first_out (timings file) ≡ length (timings file)
  pub judged : separation (timings file) 16384 ≡ gives (length (cells_of (timings file)))
  pub is : content ≡ record { track = track_of file; side = side_of file; cells = length (cells_of (timings file)) }
  pub some : length (cells_of (timings file)) ≡ 0 → ⊥
  pub few : length (cells_of (timings file)) ≤ 131072

placed_same : (track side n : ℕ) {content : Content} → ◌≡◌ {A = Answer Content} (gives (record { track = track; side = side; cells = n })) (gives content)
    → content ≡ record { track = track; side = side; cells = n }
placed_same track side n e = sym (cc)

given-some : (track side : ℕ) (answer : Answer ℕ) (content : Content) → placed track side (some_cells answer) ≡ gives content
    → (answer ≡ gives content.cells) × ((content.cells ≡ 0 → ⊥) × (content ≡ record { track = track; side = side; cells = content.cells }))
unfolding placed some_cells
given-some track side (gives n) content e = go (eqb n 0) refl e
  where
    go : (x : Bool) → eqb n 0 ≡ x → placed track side (cond x (refused 2 0) (gives n)) ≡ gives content
        → (gives n ≡ gives content.cells) × ((content.cells ≡ 0 → ⊥) × (content ≡ record { track = track; side = side; cells = content.cells }))
    go true a e = never e
    go false a e =
        let same = placed_same track side n e in
        let cells : content.cells ≡ n = ap (λ (c : Content). c.cells) same in
        (ap gives (sym cells), ((λ z. eqb-false n 0 a (sym cells ∙ z)), same ∙ ap (λ (k : ℕ). record { track = track; side = side; cells = k }) (sym cells)))
given-some track side (refused number value) content e = never e

pub accepts : (file : List ℕ) (content : Content) → flux_answer file ≡ gives content → Accepts file content
unfolding flux_answer given_at_once
accepts file content = go (place_count_refused file) (cells_refused file) (flux_count_refused file) (not_a_flux_file file) refl refl
  where
    judged : WholeFlux file → placed (track_of file) (side_of file) (some_cells (separation (timings file) 16384)) ≡ gives content → Accepts file content
    judged flux e =
        let given = given-some (track_of file) (side_of file) (separation (timings file) 16384) content e in
        let ok = accepted (timings file) flux.some flux.few given.0 in
        record {
          flux = flux;
          all = ok.all;
          judged = given.0 ∙ ap gives ok.counted;
          is = given.1.1 ∙ ap (λ (k : ℕ). record { track = track_of file; side = side_of file; cells = k }) ok.counted;
          some = λ z. given.1.0 (ok.counted ∙ z);
          few = ok.few;
        }

    go : (a b c d : Bool) → flux_count_refused file ≡ c → not_a_flux_file file ≡ d
        → cond a (refused 15 0) (cond b (refused 15 0) (cond c (refused 7 (flux_count file)) (cond d (refused 15 0) (placed (track_of file) (side_of file) (some_cells (separation (timings file) 16384))))))
        ≡ gives content
        → Accepts file content
    go true b c d p q e = never e
    go false true c d p q e = never e
    go false false true d p q e = never e
    go false false false true p q e = never e
    go false false false false p q e = judged (whole-flux file p q) e
