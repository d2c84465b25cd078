-- What the reader gives of a track file that was written. Assumes nothing.
use Prim.Native.Nat.{ℕ, ◌+◌, ◌≤◌, ◌<◌}
use mathlib.Core.Path.{◌≡◌, refl, sym, ◌∙◌, ap, subst}
use mathlib.Core.Bool.{Bool, true, false, cond, not, ◌&&◌, ◌||◌}
use mathlib.Core.List.{List, [], ◌++◌, append-nil}
use native.Mathlib.Omega.{arith}
use borrow.Author.Tests.{le-ltb, eq-eqb, ne_eqb}
use lib.Dec.{eqb, ltb}
use lib.ListN.{length}
use Rattle.basis.proofs.Bools.{and-false}
use Rattle.cells.specs.CellsAndBytes.{bytes_for}
use Rattle.refusals.specs.RefusedCalls.{Answer}
use Rattle.refusals.specs.RefusedCalls.Answer.{gives, refused}
use Rattle.track_file.specs.TrackFile.{Content, place_count, track_of, side_of, cell_section, cell_count, packed_bytes, flux_section, flux_count, file_length, has_count, given_at_once, not_a_track_file, file_answer, file_with}
use Rattle.flux_conversion.specs.Conversion.{new_length}
use Rattle.flux_conversion.proofs.Reading.{long-file, place_read, track-read, side-read, count-read, cells-read, no-timings-read}

-- a whole file of n cells is accepted, whatever counts are there
none_before : (a b c : Bool) (p n v len total : ℕ) (content : Content) → p ≡ 2 → n ≤ 131072 → v ≡ 0 → (n ≡ 0 → ⊥) → len ≡ total
    → cond (a && not (eqb p 2)) (refused 15 0)
    (cond (b && ltb 131072 n) (refused 2 n) (cond (c && not (eqb v 0)) (refused 23 0) (cond (eqb n 0 || not (eqb len total)) (refused 15 0) (gives content))))
    ≡ gives content
none_before a b c p n v len total content place few none some whole =
    rw (eq-eqb p 2 place, le-ltb 131072 n few, eq-eqb v 0 none, ne_eqb n 0 some, eq-eqb len total whole, and-false a, and-false b, and-false c)

-- what a written file reads
pub record Reads (T H n : ℕ) (packed whole : List ℕ) : Type 0 where
  pub place : place_count whole ≡ 2
  pub track : track_of whole ≡ T
  pub side : side_of whole ≡ H
  pub count : cell_count whole ≡ n
  pub cells : packed_bytes whole ≡ packed
  pub no_timings : flux_count whole ≡ 0

module _ (T H n : ℕ) (packed : List ℕ) (few : n ≤ 131072) (long : length packed ≡ bytes_for n) where
  pub reads : Reads T H n packed (file_with T H n packed)
  reads =
      let small : n < 0x1_0000_0000 = omega arith in
      subst (Reads T H n packed) (append-nil (file_with T H n packed))
      record {
        place = place_read T H n packed [];
        track = track-read T H n packed [];
        side = side-read T H n packed [];
        count = count-read T H n packed [] small;
        cells = cells-read T H n packed [] small long;
        no_timings = no-timings-read T H n packed [] small long;
      }

  pub is-accepted : (n ≡ 0 → ⊥) → file_answer (file_with T H n packed) ≡ gives (record { track = T; side = H; cells = n })
  unfolding file_answer given_at_once not_a_track_file
  is-accepted some =
      let whole = file_with T H n packed in
      let r = reads in
      let total : length whole ≡ file_length whole = long-file T H n packed long ∙ ap new_length (sym r.count) in
      let cells = r.count in
      none_before (has_count whole) (has_count (cell_section whole)) (has_count (flux_section whole)) (place_count whole) (cell_count whole) (flux_count whole)
      (length whole) (file_length whole) (record { track = track_of whole; side = side_of whole; cells = cell_count whole }) r.place (subst (λ (k : ℕ). k ≤ 131072) (sym cells) few)
      r.no_timings (λ e. some (sym cells ∙ e)) total
      ∙ same r.track r.side cells
    where
      same : {a b c : ℕ} → a ≡ T → b ≡ H → c ≡ n
          → ◌≡◌ {A = Answer Content} (gives (record { track = a; side = b; cells = c })) (gives (record { track = T; side = H; cells = n }))
      same e f g = rw (e, f, g)
