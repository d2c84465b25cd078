-- The cell buffer after the bytes of a file that is accepted, taken one by one from a buffer of zeros. Assumes nothing.
use Prim.Native.Nat.{ℕ, zero, suc, ◌*◌, ◌≤◌}
use mathlib.Core.Path.{◌≡◌, refl, sym, ◌∙◌, ap}
use mathlib.Core.Bool.{Bool, true, false, cond}
use mathlib.Core.List.{List, [], ◌∷◌}
use native.Mathlib.Decide.{ℕ_discrete}
use native.Mathlib.Omega.{arith}
use borrow.Author.Tests.{ltb-false, eqb-false}
use lib.Dec.{eqb, ltb}
use lib.IntN.{pos}
use lib.ListN.{length, drop, replicate}
use Rattle.basis.specs.Bytes.{four_bytes, number}
use Rattle.basis.specs.Lists.{written_over}
use Rattle.cells.specs.CellsAndBytes.{packed}
use Rattle.refusals.specs.RefusedCalls.{Answer}
use Rattle.refusals.specs.RefusedCalls.Answer.{gives, refused}
use Rattle.refusals.specs.declared.Refusal.TheVariants.{TooManyTimings, NotATrackFile as NoTrackFile}
use Rattle.separation.specs.Separation.{cells_of, separation}
use Rattle.taken_timings.specs.Timings.{taken_after, taken_cells}
use Rattle.std.specs.Prelude.{Result}
use Rattle.taken_timings.specs.declared.Taken.{Taken}
use Rattle.taken_timings.proofs.Taking.{cells_over, took_with, taken-answer}
use Rattle.taken_timings.proofs.TimingCells.{never, zeros, accepted, timings-filled}
use Rattle.file_reader.specs.Bytes.{number_after}
use Rattle.file_reader.specs.declared.Place.{Place}
use Rattle.file_reader.specs.declared.Number.TheVariants.{Empty}
use Rattle.track_file.specs.TrackFile.{Content}
use Rattle.flux_reader.specs.Bytes.{after_place_count, after_cell_count, after_flux_count, in_place_count, in_cell_count, in_flux_count, in_timing, in_timing_cells, reader_after_byte, cells_after_byte}
use Rattle.flux_reader.specs.declared.FluxReader.{FluxReader}
use Rattle.flux_reader.specs.declared.FluxReader.TheVariants.{PlaceCount, Track, CellCount, FluxCount, Timings, NotATrackFile, Stopped}
use Rattle.flux_file.specs.FluxFile.{numbers, some_cells, placed, flux_cells}
use Rattle.flux_file.specs.Portions.{reader_after, cells_after, finish_answer}
use Rattle.flux_file.proofs.Staged.{ends, ends-stopped, ends-no-file, length-numbers, next-timing, timings-whole, timings-not-whole}

-- the bytes of the timings
timings-cells : (place : Place) (k : ℕ) (taken : Result Taken ℕ) (ys buffer : List ℕ) → length ys ≡ 4 * suc k
    → cells_after (Timings place (suc k) Empty taken) ys buffer ≡ cells_over taken (numbers (suc k) ys) buffer
unfolding cells_after reader_after_byte cells_after_byte number_after in_timing in_timing_cells numbers
timings-cells place k taken [] buffer e = let z : ⊥ = omega arith in absurd z
timings-cells place k taken (a ∷ []) buffer e = let z : ⊥ = omega arith in absurd z
timings-cells place k taken (a ∷ b ∷ []) buffer e = let z : ⊥ = omega arith in absurd z
timings-cells place k taken (a ∷ b ∷ c ∷ []) buffer e = let z : ⊥ = omega arith in absurd z
timings-cells place zero taken (a ∷ b ∷ c ∷ d ∷ []) buffer e = refl
timings-cells place zero taken (a ∷ b ∷ c ∷ d ∷ y ∷ ys) buffer e = let z : ⊥ = omega arith in absurd z
timings-cells place (suc k) taken (a ∷ b ∷ c ∷ d ∷ ys) buffer e =
    let t = four_bytes a b c d in
    ap (λ (s : FluxReader). cells_after s ys (taken_cells taken t buffer)) (next-timing place k (taken_after taken t))
    ∙ timings-cells place k (taken_after taken t) ys (taken_cells taken t buffer) (omega arith)

-- an answer that is accepted at a place gives cells
pub placed-gives : (track side : ℕ) (answer : Answer ℕ) {content : Content} → placed track side (some_cells answer) ≡ gives content → answer ≡ gives content.cells
unfolding placed some_cells
placed-gives track side (gives cells) {content} e = go (eqb cells 0) e
  where
    counted : Answer Content → Answer ℕ
    counted (gives content) = gives content.cells
    counted (refused number value) = refused number value

    go : (x : Bool) → placed track side (cond x (refused 2 0) (gives cells)) ≡ gives content → gives cells ≡ gives content.cells
    go true e = never e
    go false e = ap counted e
placed-gives track side (refused number value) e = never e

module _ (place : Place) (room : ℕ) (big : 16384 ≤ room) (content : Content) where
  timings-buffer : (k : ℕ) (ys : List ℕ) → suc k ≤ 65536 → ends (Timings place (suc k) Empty (took_with 0 0 (pos 0))) ys ≡ gives content
      → cells_after (Timings place (suc k) Empty (took_with 0 0 (pos 0))) ys (zeros room) ≡ written_over (packed (cells_of (numbers (suc k) ys))) (zeros room)
  unfolding finish_answer
  timings-buffer k ys h e = go (ℕ_discrete (length ys) (4 * suc k))
    where
      go : Dec (length ys ≡ 4 * suc k)
          → cells_after (Timings place (suc k) Empty (took_with 0 0 (pos 0))) ys (zeros room) ≡ written_over (packed (cells_of (numbers (suc k) ys))) (zeros room)
      go (yes w) =
          let ts = numbers (suc k) ys in
          let l : length ts ≡ suc k = length-numbers (suc k) ys in
          let some : length ts ≡ 0 → ⊥ = λ z. omega arith in
          let few : length ts ≤ 65536 = omega arith in
          let given = ap finish_answer (timings-whole place k (took_with 0 0 (pos 0)) ys w)
          ∙ ap (λ (x : Answer ℕ). placed place.track place.side (some_cells x)) (taken-answer ts some few) in
          let ok = accepted ts some few (placed-gives place.track place.side (separation ts 16384) (sym given ∙ e)) in
          timings-cells place k (took_with 0 0 (pos 0)) ys (zeros room) w ∙ timings-filled room big ts few ok
      go (no f) = never (sym (timings-not-whole place k (took_with 0 0 (pos 0)) ys f) ∙ e)

  after-flux-count : (v : ℕ) (ys : List ℕ) → ends (after_flux_count place v) ys ≡ gives content
      → cells_after (after_flux_count place v) ys (zeros room) ≡ written_over (packed (cells_of (numbers v ys))) (zeros room)
  unfolding after_flux_count
  after-flux-count v ys e = go (ltb 65536 v) (eqb v 0) refl refl e
    where
      some : (v : ℕ) → v ≤ 65536 → (v ≡ 0 → ⊥) → ends (Timings place v Empty (took_with 0 0 (pos 0))) ys ≡ gives content
          → cells_after (Timings place v Empty (took_with 0 0 (pos 0))) ys (zeros room) ≡ written_over (packed (cells_of (numbers v ys))) (zeros room)
      some zero h f e = absurd (f refl)
      some (suc k) h f e = timings-buffer k ys h e

      go : (x w : Bool) → ltb 65536 v ≡ x → eqb v 0 ≡ w
          → ends (cond x (Stopped (TooManyTimings v)) (cond w NotATrackFile (Timings place v Empty (took_with 0 0 (pos 0))))) ys ≡ gives content
          → cells_after (cond x (Stopped (TooManyTimings v)) (cond w NotATrackFile (Timings place v Empty (took_with 0 0 (pos 0))))) ys (zeros room)
          ≡ written_over (packed (cells_of (numbers v ys))) (zeros room)
      go true w a b e = never (sym (ends-stopped (TooManyTimings v) ys) ∙ e)
      go false true a b e = never (sym (ends-no-file ys) ∙ e)
      go false false a b e = some v (ltb-false 65536 v a) (eqb-false v 0 b) e

  flux-buffer : (fs : List ℕ) → ends (FluxCount place Empty) fs ≡ gives content
      → cells_after (FluxCount place Empty) fs (zeros room) ≡ written_over (packed (cells_of (numbers (number fs) (drop 4 fs)))) (zeros room)
  unfolding reader_after cells_after reader_after_byte cells_after_byte number_after in_flux_count finish_answer
  flux-buffer [] e = never e
  flux-buffer (a ∷ []) e = never e
  flux-buffer (a ∷ b ∷ []) e = never e
  flux-buffer (a ∷ b ∷ c ∷ []) e = never e
  flux-buffer (a ∷ b ∷ c ∷ d ∷ ys) e = after-flux-count (four_bytes a b c d) ys e

  after-cell-count : (n : ℕ) (fs : List ℕ) → ends (after_cell_count place n) fs ≡ gives content
      → cells_after (after_cell_count place n) fs (zeros room) ≡ written_over (packed (cells_of (numbers (number fs) (drop 4 fs)))) (zeros room)
  unfolding after_cell_count
  after-cell-count n fs e = go (eqb n 0) e
    where
      go : (x : Bool) → ends (cond x (FluxCount place Empty) (Stopped NoTrackFile)) fs ≡ gives content
          → cells_after (cond x (FluxCount place Empty) (Stopped NoTrackFile)) fs (zeros room) ≡ written_over (packed (cells_of (numbers (number fs) (drop 4 fs)))) (zeros room)
      go true e = flux-buffer fs e
      go false e = never (sym (ends-stopped NoTrackFile fs) ∙ e)

  cell-buffer : (cs : List ℕ) → ends (CellCount place Empty) cs ≡ gives content
      → cells_after (CellCount place Empty) cs (zeros room) ≡ written_over (packed (cells_of (numbers (number (drop 4 cs)) (drop 4 (drop 4 cs))))) (zeros room)
  unfolding reader_after cells_after reader_after_byte cells_after_byte number_after in_cell_count finish_answer
  cell-buffer [] e = never e
  cell-buffer (a ∷ []) e = never e
  cell-buffer (a ∷ b ∷ []) e = never e
  cell-buffer (a ∷ b ∷ c ∷ []) e = never e
  cell-buffer (a ∷ b ∷ c ∷ d ∷ fs) e = after-cell-count (four_bytes a b c d) fs e

-- the whole file
module _ (room : ℕ) (big : 16384 ≤ room) (content : Content) where
  pub file-filled : (file : List ℕ) → ends (PlaceCount Empty) file ≡ gives content
      → cells_after (PlaceCount Empty) file (replicate room 0) ≡ written_over (flux_cells file) (replicate room 0)
  unfolding reader_after cells_after reader_after_byte cells_after_byte number_after in_place_count after_place_count finish_answer
  file-filled [] e = never e
  file-filled (a ∷ []) e = never e
  file-filled (a ∷ b ∷ []) e = never e
  file-filled (a ∷ b ∷ c ∷ []) e = never e
  file-filled (a ∷ b ∷ c ∷ d ∷ []) e = go (eqb (four_bytes a b c d) 2) e
    where
      go : {X : Type 0} (x : Bool) → finish_answer (cond x Track (Stopped NoTrackFile)) ≡ gives content → X
      go true e = never e
      go false e = never e
  file-filled (a ∷ b ∷ c ∷ d ∷ t ∷ []) e = go (eqb (four_bytes a b c d) 2) e
    where
      go : {X : Type 0} (x : Bool) → finish_answer (reader_after_byte (cond x Track (Stopped NoTrackFile)) t) ≡ gives content → X
      go true e = never e
      go false e = never e
  file-filled (a ∷ b ∷ c ∷ d ∷ t ∷ h ∷ cs) e = go (eqb (four_bytes a b c d) 2) e
    where
      go : (x : Bool) → ends (cond x Track (Stopped NoTrackFile)) (t ∷ h ∷ cs) ≡ gives content
          → cells_after (cond x Track (Stopped NoTrackFile)) (t ∷ h ∷ cs) (zeros room) ≡ written_over (flux_cells (a ∷ b ∷ c ∷ d ∷ t ∷ h ∷ cs)) (zeros room)
      go true e = cell-buffer (record { track = t; side = h }) room big content cs e
      go false e = never (sym (ends-stopped NoTrackFile (t ∷ h ∷ cs)) ∙ e)
