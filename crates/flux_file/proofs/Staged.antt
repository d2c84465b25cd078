-- What the bytes of a file give, taken one by one, section after section. Assumes nothing.
use Prim.Native.Nat.{ℕ, zero, suc, ◌+◌, ◌-◌, ◌*◌, ◌≤◌}
use mathlib.Core.Path.{◌≡◌, refl, sym, ◌∙◌, ap}
use mathlib.Core.Bool.{Bool, true, false, cond}
use mathlib.Core.List.{List, [], ◌∷◌}
use native.Mathlib.Omega.{arith}
use native.Mathlib.Decide.{ℕ_discrete}
use borrow.Author.Tests.{le-ltb, eq-eqb, ne_eqb, ltb-false, eqb-false}
use lib.Dec.{eqb, ltb}
use lib.IntN.{pos}
use lib.ListN.{length, drop}
use Rattle.refusals.specs.RefusedCalls.{Answer, refused_with}
use Rattle.refusals.specs.RefusedCalls.Answer.{refused}
use Rattle.refusals.specs.declared.Refusal.{Refusal}
use Rattle.refusals.specs.declared.Refusal.TheVariants.{TooManyTimings, NotATrackFile as NoTrackFile}
use Rattle.separation.specs.Separation.{separation}
use Rattle.basis.specs.Bytes.{four_bytes, number}
use Rattle.track_file.specs.TrackFile.{Content}
use Rattle.flux_file.specs.FluxFile.{numbers, some_cells, placed}
use Rattle.taken_timings.specs.Timings.{taken_after}
use Rattle.file_reader.specs.Bytes.{number_after}
use Rattle.flux_reader.specs.Bytes.{after_cell_count, after_flux_count, after_timing, in_cell_count, in_flux_count, in_timing, reader_after_byte}
use Rattle.flux_file.specs.Portions.{reader_after, finish_answer}
use Rattle.file_reader.specs.declared.Place.{Place}
use Rattle.file_reader.specs.declared.Number.TheVariants.{Empty}
use Rattle.std.specs.Prelude.{Result}
use Rattle.taken_timings.specs.declared.Taken.{Taken}
use Rattle.flux_reader.specs.declared.FluxReader.{FluxReader}
use Rattle.flux_reader.specs.declared.FluxReader.TheVariants.{CellCount, FluxCount, Timings, AllTimings, NotATrackFile, Stopped}
use Rattle.flux_reader.proofs.Sections.{more-timings, last-timing}
use Rattle.flux_file.proofs.Endings.{reader-stays}
use Rattle.taken_timings.proofs.Taking.{taken_over, took_with, taken-answer}

-- what the file gives that has these bytes left where the reader stands so
abbrev pub ends : FluxReader → List ℕ → Answer Content
ends reader bytes = finish_answer (reader_after reader bytes)

abbrev pub short : Answer Content
short = refused 15 0

pub ends-stopped : (refusal : Refusal) (bytes : List ℕ) → ends (Stopped refusal) bytes ≡ refused_with refusal
unfolding finish_answer
ends-stopped refusal bytes = ap finish_answer (reader-stays refusal bytes)

pub no-file-stays : (bytes : List ℕ) → reader_after NotATrackFile bytes ≡ NotATrackFile
unfolding reader_after reader_after_byte
no-file-stays [] = refl
no-file-stays (byte ∷ bytes) = no-file-stays bytes

pub ends-no-file : (bytes : List ℕ) → ends NotATrackFile bytes ≡ short
unfolding finish_answer
ends-no-file bytes = ap finish_answer (no-file-stays bytes)

pub length-numbers : (k : ℕ) (bytes : List ℕ) → length (numbers k bytes) ≡ k
unfolding numbers
length-numbers zero bytes = refl
length-numbers (suc k) bytes = ap suc (length-numbers k (drop 4 bytes))

-- the flux section
unfoldable pub flux_stage : Place → List ℕ → Answer Content
flux_stage place fs =
    cond (ltb (length fs) 4) short
    (cond (ltb 65536 (number fs)) (refused 7 (number fs))
    (cond (eqb (number fs) 0) short
    (cond (eqb (length fs) (4 + 4 * number fs)) (placed place.track place.side (some_cells (separation (numbers (number fs) (drop 4 fs)) 16384))) short)))

-- the cell section and what follows
unfoldable pub cell_stage : Place → List ℕ → Answer Content
cell_stage place cs = cond (ltb (length cs) 4) short (cond (eqb (number cs) 0) (flux_stage place (drop 4 cs)) short)

module _ (place : Place) where
  abbrev at_place : Answer ℕ → Answer Content
  at_place answer = placed place.track place.side (some_cells answer)

  -- one timing more, of two at least
  pub next-timing : (k : ℕ) (taken : Result Taken ℕ) → after_timing place (suc (suc k)) taken ≡ Timings place (suc k) Empty taken
  next-timing k taken =
      let l : suc (suc k) - 1 ≡ suc k = omega arith in
      sym (more-timings place (suc (suc k)) taken (omega arith)) ∙ ap (λ (n : ℕ). Timings place n Empty taken) l

  pub timings-whole : (k : ℕ) (taken : Result Taken ℕ) (ys : List ℕ) → length ys ≡ 4 * suc k
      → reader_after (Timings place (suc k) Empty taken) ys ≡ AllTimings place (taken_over taken (numbers (suc k) ys))
  unfolding reader_after reader_after_byte number_after in_timing numbers
  timings-whole k taken [] e = let z : ⊥ = omega arith in absurd z
  timings-whole k taken (a ∷ []) e = let z : ⊥ = omega arith in absurd z
  timings-whole k taken (a ∷ b ∷ []) e = let z : ⊥ = omega arith in absurd z
  timings-whole k taken (a ∷ b ∷ c ∷ []) e = let z : ⊥ = omega arith in absurd z
  timings-whole zero taken (a ∷ b ∷ c ∷ d ∷ []) e = sym (last-timing place 1 (taken_after taken (four_bytes a b c d)) (omega arith))
  timings-whole zero taken (a ∷ b ∷ c ∷ d ∷ y ∷ ys) e = let z : ⊥ = omega arith in absurd z
  timings-whole (suc k) taken (a ∷ b ∷ c ∷ d ∷ ys) e =
      ap (λ (s : FluxReader). reader_after s ys) (next-timing k (taken_after taken (four_bytes a b c d)))
      ∙ timings-whole k (taken_after taken (four_bytes a b c d)) ys (omega arith)

  -- too few bytes, or too many
  pub timings-not-whole : (k : ℕ) (taken : Result Taken ℕ) (ys : List ℕ) → (length ys ≡ 4 * suc k → ⊥) → ends (Timings place (suc k) Empty taken) ys ≡ short
  unfolding reader_after reader_after_byte number_after in_timing finish_answer
  timings-not-whole k taken [] f = refl
  timings-not-whole k taken (a ∷ []) f = refl
  timings-not-whole k taken (a ∷ b ∷ []) f = refl
  timings-not-whole k taken (a ∷ b ∷ c ∷ []) f = refl
  timings-not-whole zero taken (a ∷ b ∷ c ∷ d ∷ []) f = absurd (f (omega arith))
  timings-not-whole zero taken (a ∷ b ∷ c ∷ d ∷ y ∷ ys) f =
      ap (λ (s : FluxReader). ends s (y ∷ ys)) (sym (last-timing place 1 (taken_after taken (four_bytes a b c d)) (omega arith))) ∙ ends-no-file ys
  timings-not-whole (suc k) taken (a ∷ b ∷ c ∷ d ∷ ys) f =
      ap (λ (s : FluxReader). ends s ys) (next-timing k (taken_after taken (four_bytes a b c d)))
      ∙ timings-not-whole k (taken_after taken (four_bytes a b c d)) ys (λ e. f (omega arith))

  timings-end : (k len : ℕ) (ys : List ℕ) → suc k ≤ 65536 → len ≡ 4 + length ys
      → ends (Timings place (suc k) Empty (took_with 0 0 (pos 0))) ys ≡ cond (eqb len (4 + 4 * suc k)) (at_place (separation (numbers (suc k) ys) 16384)) short
  unfolding finish_answer
  timings-end k len ys h e = go (ℕ_discrete (length ys) (4 * suc k))
    where
      go : Dec (length ys ≡ 4 * suc k)
          → ends (Timings place (suc k) Empty (took_with 0 0 (pos 0))) ys ≡ cond (eqb len (4 + 4 * suc k)) (at_place (separation (numbers (suc k) ys) 16384)) short
      go (yes q) =
          let l = length-numbers (suc k) ys in
          rw (eq-eqb len (4 + 4 * suc k) (omega arith))
          (ap finish_answer (timings-whole k (took_with 0 0 (pos 0)) ys q) ∙ ap at_place (taken-answer (numbers (suc k) ys) (λ z. omega arith) (omega arith)))
      go (no f) = rw (ne_eqb len (4 + 4 * suc k) (λ w. f (omega arith))) (timings-not-whole k (took_with 0 0 (pos 0)) ys f)

  after-flux-count : (v len : ℕ) (ys : List ℕ) → len ≡ 4 + length ys
      → ends (after_flux_count place v) ys
      ≡ cond (ltb 65536 v) (refused 7 v) (cond (eqb v 0) short (cond (eqb len (4 + 4 * v)) (at_place (separation (numbers v ys) 16384)) short))
  unfolding after_flux_count
  after-flux-count v len ys e = go (ltb 65536 v) (eqb v 0) refl refl
    where
      some : (v : ℕ) → v ≤ 65536 → (v ≡ 0 → ⊥)
          → ends (Timings place v Empty (took_with 0 0 (pos 0))) ys ≡ cond (eqb len (4 + 4 * v)) (at_place (separation (numbers v ys) 16384)) short
      some zero h f = absurd (f refl)
      some (suc k) h f = timings-end k len ys h e

      go : (x z : Bool) → ltb 65536 v ≡ x → eqb v 0 ≡ z
          → ends (cond x (Stopped (TooManyTimings v)) (cond z NotATrackFile (Timings place v Empty (took_with 0 0 (pos 0))))) ys
          ≡ cond x (refused 7 v) (cond z short (cond (eqb len (4 + 4 * v)) (at_place (separation (numbers v ys) 16384)) short))
      go true z a b = ends-stopped (TooManyTimings v) ys
      go false true a b = ends-no-file ys
      go false false a b = some v (ltb-false 65536 v a) (eqb-false v 0 b)

  pub flux-end : (fs : List ℕ) → ends (FluxCount place Empty) fs ≡ flux_stage place fs
  unfolding reader_after reader_after_byte number_after in_flux_count finish_answer flux_stage
  flux-end [] = refl
  flux-end (a ∷ []) = refl
  flux-end (a ∷ b ∷ []) = refl
  flux-end (a ∷ b ∷ c ∷ []) = refl
  flux-end (a ∷ b ∷ c ∷ d ∷ ys) =
      rw (le-ltb (suc (suc (suc (suc (length ys))))) 4 (omega arith)) (after-flux-count (four_bytes a b c d) (suc (suc (suc (suc (length ys))))) ys (omega arith))

  after-cell-count : (n : ℕ) (fs : List ℕ) → ends (after_cell_count place n) fs ≡ cond (eqb n 0) (flux_stage place fs) short
  unfolding after_cell_count
  after-cell-count n fs = go (eqb n 0)
    where
      go : (x : Bool) → ends (cond x (FluxCount place Empty) (Stopped NoTrackFile)) fs ≡ cond x (flux_stage place fs) short
      go true = flux-end fs
      go false = ends-stopped NoTrackFile fs

  pub cell-end : (cs : List ℕ) → ends (CellCount place Empty) cs ≡ cell_stage place cs
  unfolding reader_after reader_after_byte number_after in_cell_count finish_answer cell_stage
  cell-end [] = refl
  cell-end (a ∷ []) = refl
  cell-end (a ∷ b ∷ []) = refl
  cell-end (a ∷ b ∷ c ∷ []) = refl
  cell-end (a ∷ b ∷ c ∷ d ∷ fs) = rw (le-ltb (suc (suc (suc (suc (length fs))))) 4 (omega arith)) (after-cell-count (four_bytes a b c d) fs)
