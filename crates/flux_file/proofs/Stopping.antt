-- The reader is stopped exactly where a refusal is given at once. Assumes nothing.
use Prim.Native.Nat.{ℕ, suc, ◌-◌, ◌<◌}
use mathlib.Core.Path.{◌≡◌, refl, ap}
use mathlib.Core.Bool.{Bool, true, false, cond, not, ◌&&◌, ◌||◌}
use mathlib.Core.List.{List, [], ◌∷◌}
use native.Mathlib.Omega.{arith}
use borrow.Author.Tests.{lt-leb, le-leb}
use lib.Dec.{eqb, ltb}
use lib.IntN.{pos}
use lib.ListN.{length, drop, length-drop}
use Rattle.basis.specs.Bytes.{four_bytes, number}
use Rattle.refusals.specs.declared.Refusal.{Refusal}
use Rattle.refusals.specs.declared.Refusal.TheVariants.{TooManyTimings, NoRoom, NotATrackFile as NoTrackFile}
use Rattle.taken_timings.specs.Timings.{taken_after}
use Rattle.std.specs.Prelude.{Result}
use Rattle.taken_timings.specs.declared.Taken.{Taken}
use Rattle.taken_timings.proofs.Taking.{took_with}
use Rattle.file_reader.specs.Bytes.{number_after}
use Rattle.file_reader.specs.declared.Place.{Place}
use Rattle.file_reader.specs.declared.Number.{Number}
use Rattle.file_reader.specs.declared.Number.TheVariants.{Empty, One, Two, Three}
use Rattle.track_file.specs.TrackFile.{has_count}
use Rattle.flux_reader.specs.Bytes.{after_place_count, after_cell_count, after_flux_count, after_timing, in_place_count, in_cell_count, in_flux_count, in_timing, reader_after_byte}
use Rattle.flux_reader.specs.declared.FluxReader.{FluxReader}
use Rattle.flux_reader.specs.declared.FluxReader.TheVariants.{PlaceCount, Track, CellCount, FluxCount, Timings, AllTimings, NotATrackFile, Stopped}
use Rattle.flux_file.specs.FluxFile.{refused_at_once}
use Rattle.flux_file.specs.Portions.{start_of, reader_after, is_stopped}
use Rattle.flux_file.proofs.Endings.{reader-stays}
use Rattle.flux_file.proofs.Staged.{no-file-stays}

-- whether the reader is stopped after these bytes
abbrev pub stops : FluxReader → List ℕ → Bool
stops reader bytes = is_stopped (reader_after reader bytes)

stops-stopped : (refusal : Refusal) (bytes : List ℕ) → stops (Stopped refusal) bytes ≡ true
unfolding is_stopped
stops-stopped refusal bytes = ap is_stopped (reader-stays refusal bytes)

stops-no-file : (bytes : List ℕ) → stops NotATrackFile bytes ≡ false
unfolding is_stopped
stops-no-file bytes = ap is_stopped (no-file-stays bytes)

-- whether the flux count fs is refused
abbrev flux_refused : List ℕ → Bool
flux_refused fs = has_count fs && ltb 65536 (number fs)

-- whether the cell count cs, or the flux count after it, is refused
abbrev counts_refused : List ℕ → Bool
counts_refused cs = (has_count cs && not (eqb (number cs) 0)) || flux_refused (drop 4 cs)

no-cell-count : (cs : List ℕ) → length cs < 4 → false ≡ counts_refused cs
no-cell-count cs h =
    let m = length-drop 4 cs in
    let k : length (drop 4 cs) < 4 = omega arith in
    rw (lt-leb 4 (length cs) h, lt-leb 4 (length (drop 4 cs)) k)

module _ (place : Place) where
  stops-all-timings : (taken : Result Taken ℕ) (bytes : List ℕ) → stops (AllTimings place taken) bytes ≡ false
  unfolding is_stopped reader_after reader_after_byte
  stops-all-timings taken [] = refl
  stops-all-timings taken (byte ∷ bytes) = stops-no-file bytes

  -- among the timings no refusal is given at once
  stops-timings : (left : ℕ) (n : Number) (taken : Result Taken ℕ) (bytes : List ℕ) → stops (Timings place left n taken) bytes ≡ false
  unfolding is_stopped reader_after reader_after_byte number_after in_timing after_timing
  stops-timings left n taken [] = refl
  stops-timings left Empty taken (byte ∷ bytes) = stops-timings left (One byte) taken bytes
  stops-timings left (One a) taken (byte ∷ bytes) = stops-timings left (Two a byte) taken bytes
  stops-timings left (Two a b) taken (byte ∷ bytes) = stops-timings left (Three a b byte) taken bytes
  stops-timings left (Three a b c) taken (byte ∷ bytes) =
      go (ltb 1 left) (taken_after taken (four_bytes a b c byte)) (stops-timings (left - 1) Empty (taken_after taken (four_bytes a b c byte)) bytes)
    where
      go : (x : Bool) (after : Result Taken ℕ) → stops (Timings place (left - 1) Empty after) bytes ≡ false
          → stops (cond x (Timings place (left - 1) Empty after) (AllTimings place after)) bytes ≡ false
      go true after e = e
      go false after e = stops-all-timings after bytes

  after-flux-count : (v : ℕ) (bytes : List ℕ) → stops (after_flux_count place v) bytes ≡ ltb 65536 v
  unfolding after_flux_count
  after-flux-count v bytes = go (ltb 65536 v) (eqb v 0)
    where
      go : (x z : Bool) → stops (cond x (Stopped (TooManyTimings v)) (cond z NotATrackFile (Timings place v Empty (took_with 0 0 (pos 0))))) bytes ≡ x
      go true z = stops-stopped (TooManyTimings v) bytes
      go false true = stops-no-file bytes
      go false false = stops-timings v Empty (took_with 0 0 (pos 0)) bytes

  in-flux-count : (fs : List ℕ) → stops (FluxCount place Empty) fs ≡ flux_refused fs
  unfolding is_stopped reader_after reader_after_byte number_after in_flux_count
  in-flux-count [] = refl
  in-flux-count (a ∷ []) = refl
  in-flux-count (a ∷ b ∷ []) = refl
  in-flux-count (a ∷ b ∷ c ∷ []) = refl
  in-flux-count (a ∷ b ∷ c ∷ d ∷ ys) =
      rw (le-leb 4 (suc (suc (suc (suc (length ys))))) (omega arith)) (after-flux-count (four_bytes a b c d) ys)

  after-cell-count : (n : ℕ) (fs : List ℕ) → stops (after_cell_count place n) fs ≡ (not (eqb n 0) || flux_refused fs)
  unfolding after_cell_count
  after-cell-count n fs = go (eqb n 0)
    where
      go : (x : Bool) → stops (cond x (FluxCount place Empty) (Stopped NoTrackFile)) fs ≡ (not x || flux_refused fs)
      go true = in-flux-count fs
      go false = stops-stopped NoTrackFile fs

  in-cell-count : (cs : List ℕ) → stops (CellCount place Empty) cs ≡ counts_refused cs
  unfolding is_stopped reader_after reader_after_byte number_after in_cell_count
  in-cell-count [] = no-cell-count [] (omega arith)
  in-cell-count (a ∷ []) = no-cell-count (a ∷ []) (omega arith)
  in-cell-count (a ∷ b ∷ []) = no-cell-count (a ∷ b ∷ []) (omega arith)
  in-cell-count (a ∷ b ∷ c ∷ []) = no-cell-count (a ∷ b ∷ c ∷ []) (omega arith)
  in-cell-count (a ∷ b ∷ c ∷ d ∷ xs) = rw (le-leb 4 (suc (suc (suc (suc (length xs))))) (omega arith)) (after-cell-count (four_bytes a b c d) xs)

no-place-count : (file : List ℕ) → length file < 4 → false ≡ refused_at_once file
unfolding refused_at_once
no-place-count file h =
    let l = length-drop 6 file in
    rw (lt-leb 4 (length file) h) (no-cell-count (drop 6 file) (omega arith))

in-place-count : (file : List ℕ) → stops (PlaceCount Empty) file ≡ refused_at_once file
unfolding is_stopped reader_after reader_after_byte number_after in_place_count after_place_count refused_at_once
in-place-count [] = no-place-count [] (omega arith)
in-place-count (a ∷ []) = no-place-count (a ∷ []) (omega arith)
in-place-count (a ∷ b ∷ []) = no-place-count (a ∷ b ∷ []) (omega arith)
in-place-count (a ∷ b ∷ c ∷ []) = no-place-count (a ∷ b ∷ c ∷ []) (omega arith)
in-place-count (a ∷ b ∷ c ∷ d ∷ []) = go (eqb (four_bytes a b c d) 2)
  where
    go : (x : Bool) → is_stopped (cond x Track (Stopped NoTrackFile)) ≡ (not x || counts_refused [])
    go true = no-cell-count [] (omega arith)
    go false = refl
in-place-count (a ∷ b ∷ c ∷ d ∷ t ∷ []) = go (eqb (four_bytes a b c d) 2)
  where
    go : (x : Bool) → is_stopped (reader_after_byte (cond x Track (Stopped NoTrackFile)) t) ≡ (not x || counts_refused [])
    go true = no-cell-count [] (omega arith)
    go false = refl
in-place-count (a ∷ b ∷ c ∷ d ∷ t ∷ h ∷ cs) =
    rw (le-leb 4 (suc (suc (suc (suc (suc (suc (length cs))))))) (omega arith)) (go (eqb (four_bytes a b c d) 2))
  where
    go : (x : Bool) → stops (cond x Track (Stopped NoTrackFile)) (t ∷ h ∷ cs) ≡ (not x || counts_refused cs)
    go true = in-cell-count (record { track = t; side = h }) cs
    go false = stops-stopped NoTrackFile cs

pub from_start : (room : ℕ) (file : List ℕ) → stops (start_of room) file ≡ (ltb room 16384 || refused_at_once file)
unfolding start_of
from_start room file = go (ltb room 16384)
  where
    go : (x : Bool) → stops (cond x (Stopped (NoRoom 16384)) (PlaceCount Empty)) file ≡ (x || refused_at_once file)
    go true = stops-stopped (NoRoom 16384) file
    go false = in-place-count file
