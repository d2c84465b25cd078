-- An accepted file has as many bytes of packed cells as its number of cells needs, and at most 131,072 cells. Assumes nothing.
use Prim.Native.Nat.{ℕ, ◌-◌, ◌≤◌}
use mathlib.Core.Path.{◌≡◌, refl, ◌∙◌, ap}
use mathlib.Core.Bool.{Bool, true, false, cond, not, ◌&&◌, ◌||◌}
use mathlib.Core.List.{List}
use native.Mathlib.Omega.{arith}
use borrow.Author.Tests.{le-leb, eqb-true, ltb-false}
use lib.Dec.{eqb, ltb}
use lib.ListN.{length, drop, length-drop}
use lib.Seq.{length-take-le}
use Rattle.cells.specs.CellsAndBytes.{bytes_for}
use Rattle.refusals.specs.RefusedCalls.{Answer}
use Rattle.refusals.specs.RefusedCalls.Answer.{gives, refused}
use Rattle.track_file.specs.TrackFile.{Content, track_of, side_of, cell_section, cell_count, packed_bytes, file_length, has_count, place_count_refused, cell_count_refused, flux_count_refused, given_at_once, not_a_track_file, file_answer}
use Rattle.track_file.proofs.Staged.{never}

-- no refusal is given
record NoneBefore (file : List ℕ) (content : Content) : Type 0 where
  few_cells : cell_count_refused file ≡ false
  whole : not_a_track_file file ≡ false
  count : cell_count file ≡ content.cells

none_before : (file : List ℕ) (content : Content) → file_answer file ≡ gives content → NoneBefore file content
unfolding file_answer given_at_once
none_before file content = go (place_count_refused file) (cell_count_refused file) (flux_count_refused file) (not_a_track_file file) refl refl
  where
    given : Content
    given = record { track = track_of file; side = side_of file; cells = cell_count file }

    same : {a b : Content} → ◌≡◌ {A = Answer Content} (gives a) (gives b) → a.cells ≡ b.cells
    same e = cc

    go : (a b c d : Bool) → cell_count_refused file ≡ b → not_a_track_file file ≡ d
        → cond a (refused 15 0) (cond b (refused 2 (cell_count file)) (cond c (refused 23 0) (cond d (refused 15 0) (gives given)))) ≡ gives content
        → NoneBefore file content
    go true b c d p r e = never e
    go false true c d p r e = never e
    go false false true d p r e = never e
    go false false false true p r e = never e
    go false false false false p r e = record { few_cells = p; whole = r; count = same e }

-- two tests of which none holds, and a test of a count that is there
neither : (x y : Bool) → (x || y) ≡ false → y ≡ false
neither true y e = cc
neither false y e = e

not-false : (x : Bool) → not x ≡ false → x ≡ true
not-false true e = refl
not-false false e = cc

second : (x y : Bool) → x ≡ true → (x && y) ≡ false → y ≡ false
second true y e f = f
second false y e f = cc

module _ (file : List ℕ) (content : Content) (is : file_answer file ≡ gives content) where
  before : NoneBefore file content
  before = none_before file content is

  abbrev n : ℕ
  n = cell_count file

  long : length file ≡ file_length file
  unfolding not_a_track_file
  long = eqb-true (length file) (file_length file) (not-false _ (neither (eqb n 0) _ before.whole))

  -- the bytes after the cell count, and after the cells
  after-count : length (drop 4 (cell_section file)) ≡ (length file - 6) - 4
  after-count = length-drop 4 (cell_section file) ∙ ap (λ (k : ℕ). k - 4) (length-drop 6 file)

  few_cells : n ≤ 131072
  few_cells =
      ltb-false 131072 n (second (has_count (cell_section file)) (ltb 131072 n) (le-leb 4 (length (cell_section file)) (omega (arith, long, length-drop 6 file))) before.few_cells)

  -- the file's cells fill the bytes that their number needs
  pub cells-fill : (length (packed_bytes file) ≡ bytes_for content.cells) × (content.cells ≤ 131072)
  cells-fill =
      (length-take-le (bytes_for n) (drop 4 (cell_section file)) (omega (arith, long, after-count)) ∙ ap bytes_for before.count, omega (arith, few_cells, before.count))
