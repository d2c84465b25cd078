-- The reader is stopped exactly where a refusal is given at once. Assumes nothing.
use Prim.Native.Nat.{ℕ, zero, suc, ◌+◌, ◌-◌, ◌<◌}
use mathlib.Core.Path.{◌≡◌, refl, sym, ◌∙◌, ap, subst}
use mathlib.Core.Bool.{Bool, true, false, cond, not, ◌&&◌, ◌||◌}
use mathlib.Core.List.{List, [], ◌∷◌}
use native.Mathlib.Omega.{arith}
use borrow.Author.Tests.{lt-leb, le-leb, eqb-true, eqb-false}
use lib.Dec.{eqb, ltb}
use lib.ListN.{length, drop, length-drop}
use Rattle.cells.specs.CellsAndBytes.{bytes_for}
use Rattle.refusals.specs.declared.Refusal.{Refusal}
use Rattle.refusals.specs.declared.Refusal.TheVariants.{CellCount as CellsRefused, FluxSection, NoRoom, NotATrackFile as NoTrackFile}
use Rattle.basis.specs.Bytes.{four_bytes, number}
use Rattle.track_file.specs.TrackFile.{has_count, refused_at_once}
use Rattle.file_reader.specs.Bytes.{number_after, after_place_count, after_cell_count, after_flux_count, in_place_count, in_cell_count, in_flux_count, reader_after_byte}
use Rattle.track_file.specs.Portions.{start_of, reader_after, is_stopped}
use Rattle.file_reader.specs.declared.Place.{Place}
use Rattle.file_reader.specs.declared.Number.TheVariants.{Empty}
use Rattle.file_reader.specs.declared.Reader.{Reader}
use Rattle.file_reader.specs.declared.Reader.TheVariants.{PlaceCount, Track, CellCount, PackedCells, FluxCount, AllCells, NotATrackFile, Stopped}
use Rattle.file_reader.proofs.Sections.{more_bytes, last_byte}
use Rattle.track_file.proofs.Endings.{reader-stays}
use Rattle.track_file.proofs.Staged.{no-file-stays, some_of}

-- whether the reader is stopped after these bytes
abbrev pub stops : Reader → List ℕ → Bool
stops reader bytes = is_stopped (reader_after reader bytes)

stops-stopped : (refusal : Refusal) (bytes : List ℕ) → stops (Stopped refusal) bytes ≡ true
unfolding is_stopped
stops-stopped refusal bytes = ap is_stopped (reader-stays refusal bytes)

stops-no-file : (bytes : List ℕ) → stops NotATrackFile bytes ≡ false
unfolding is_stopped
stops-no-file bytes = ap is_stopped (no-file-stays bytes)

-- whether the flux count fs is refused
abbrev flux_refused : List ℕ → Bool
flux_refused fs = has_count fs && not (eqb (number fs) 0)

-- whether the cell count cs, or the flux count after it, is refused
abbrev cells_refused : List ℕ → Bool
cells_refused cs = (has_count cs && ltb 131072 (number cs)) || flux_refused (drop (bytes_for (number cs)) (drop 4 cs))

no-cell-count : (cs : List ℕ) → length cs < 4 → false ≡ cells_refused cs
no-cell-count cs h =
    let fs = drop (bytes_for (number cs)) (drop 4 cs) in
    let l = length-drop (bytes_for (number cs)) (drop 4 cs) in
    let m = length-drop 4 cs in
    let k : length fs < 4 = omega arith in
    rw (lt-leb 4 (length cs) h, lt-leb 4 (length fs) k)

module _ (place : Place) where
  stops-all-cells : (n : ℕ) (bytes : List ℕ) → stops (AllCells place n) bytes ≡ false
  unfolding is_stopped reader_after reader_after_byte
  stops-all-cells n [] = refl
  stops-all-cells n (byte ∷ bytes) = stops-no-file bytes

  after-flux-count : (n v : ℕ) (bytes : List ℕ) → stops (after_flux_count place n v) bytes ≡ not (eqb v 0)
  unfolding after_flux_count
  after-flux-count n v bytes = go (eqb v 0) (eqb n 0)
    where
      go : (x y : Bool) → stops (cond x (cond y NotATrackFile (AllCells place n)) (Stopped FluxSection)) bytes ≡ not x
      go true true = stops-no-file bytes
      go true false = stops-all-cells n bytes
      go false y = stops-stopped FluxSection bytes

  in-flux-count : (n : ℕ) (fs : List ℕ) → stops (FluxCount place n Empty) fs ≡ flux_refused fs
  unfolding is_stopped reader_after reader_after_byte number_after in_flux_count
  in-flux-count n [] = refl
  in-flux-count n (a ∷ []) = refl
  in-flux-count n (a ∷ b ∷ []) = refl
  in-flux-count n (a ∷ b ∷ c ∷ []) = refl
  in-flux-count n (a ∷ b ∷ c ∷ d ∷ ys) =
      rw (le-leb 4 (suc (suc (suc (suc (length ys))))) (omega arith)) (after-flux-count n (four_bytes a b c d) ys)

  in-packed : (n k at : ℕ) (xs : List ℕ) → at + suc k ≡ bytes_for n → stops (PackedCells place n at) xs ≡ stops (FluxCount place n Empty) (drop (suc k) xs)
  unfolding is_stopped reader_after reader_after_byte
  in-packed n k at [] e = refl
  in-packed n zero at (x ∷ xs) e = ap (λ (s : Reader). stops s xs) (sym (last_byte place n at (omega arith)))
  in-packed n (suc k) at (x ∷ xs) e = ap (λ (s : Reader). stops s xs) (sym (more_bytes place n at (omega arith))) ∙ in-packed n k (at + 1) xs (omega arith)

  after-cell-count : (n : ℕ) (xs : List ℕ) → stops (after_cell_count place n) xs ≡ (ltb 131072 n || flux_refused (drop (bytes_for n) xs))
  unfolding after_cell_count
  after-cell-count n xs = go (ltb 131072 n) (eqb n 0) refl
    where
      none : (m : ℕ) → m ≡ 0 → stops (FluxCount place 0 Empty) xs ≡ flux_refused (drop (bytes_for m) xs)
      none m e = subst (λ (k : ℕ). stops (FluxCount place 0 Empty) xs ≡ flux_refused (drop (bytes_for k) xs)) (sym e) (in-flux-count 0 xs)

      some : (k : ℕ) → bytes_for n ≡ suc k → stops (PackedCells place n 0) xs ≡ flux_refused (drop (bytes_for n) xs)
      some k e =
          in-packed n k 0 xs (omega arith) ∙ ap (λ (m : ℕ). stops (FluxCount place n Empty) (drop m xs)) (sym e) ∙ in-flux-count n (drop (bytes_for n) xs)

      go : (x y : Bool) → eqb n 0 ≡ y
          → stops (cond x (Stopped (CellsRefused n)) (cond y (FluxCount place 0 Empty) (PackedCells place n 0))) xs ≡ (x || flux_refused (drop (bytes_for n) xs))
      go true y b = stops-stopped (CellsRefused n) xs
      go false true b = none n (eqb-true n 0 b)
      go false false b = some (bytes_for n - 1) (omega (arith, some_of n (eqb-false n 0 b)))

  in-cell-count : (cs : List ℕ) → stops (CellCount place Empty) cs ≡ cells_refused cs
  unfolding is_stopped reader_after reader_after_byte number_after in_cell_count
  in-cell-count [] = no-cell-count [] (omega arith)
  in-cell-count (a ∷ []) = no-cell-count (a ∷ []) (omega arith)
  in-cell-count (a ∷ b ∷ []) = no-cell-count (a ∷ b ∷ []) (omega arith)
  in-cell-count (a ∷ b ∷ c ∷ []) = no-cell-count (a ∷ b ∷ c ∷ []) (omega arith)
  in-cell-count (a ∷ b ∷ c ∷ d ∷ xs) = rw (le-leb 4 (suc (suc (suc (suc (length xs))))) (omega arith)) (after-cell-count (four_bytes a b c d) xs)

no-place-count : (file : List ℕ) → length file < 4 → false ≡ refused_at_once file
unfolding refused_at_once
no-place-count file h =
    let l = length-drop 6 file in
    rw (lt-leb 4 (length file) h) (no-cell-count (drop 6 file) (omega arith))

in-place-count : (file : List ℕ) → stops (PlaceCount Empty) file ≡ refused_at_once file
unfolding is_stopped reader_after reader_after_byte number_after in_place_count after_place_count refused_at_once
in-place-count [] = no-place-count [] (omega arith)
in-place-count (a ∷ []) = no-place-count (a ∷ []) (omega arith)
in-place-count (a ∷ b ∷ []) = no-place-count (a ∷ b ∷ []) (omega arith)
in-place-count (a ∷ b ∷ c ∷ []) = no-place-count (a ∷ b ∷ c ∷ []) (omega arith)
in-place-count (a ∷ b ∷ c ∷ d ∷ []) = go (eqb (four_bytes a b c d) 2)
  where
    go : (x : Bool) → is_stopped (cond x Track (Stopped NoTrackFile)) ≡ (not x || cells_refused [])
    go true = no-cell-count [] (omega arith)
    go false = refl
in-place-count (a ∷ b ∷ c ∷ d ∷ t ∷ []) = go (eqb (four_bytes a b c d) 2)
  where
    go : (x : Bool) → is_stopped (reader_after_byte (cond x Track (Stopped NoTrackFile)) t) ≡ (not x || cells_refused [])
    go true = no-cell-count [] (omega arith)
    go false = refl
in-place-count (a ∷ b ∷ c ∷ d ∷ t ∷ h ∷ cs) =
    rw (le-leb 4 (suc (suc (suc (suc (suc (suc (length cs))))))) (omega arith)) (go (eqb (four_bytes a b c d) 2))
  where
    go : (x : Bool) → stops (cond x Track (Stopped NoTrackFile)) (t ∷ h ∷ cs) ≡ (not x || cells_refused cs)
    go true = in-cell-count (record { track = t; side = h }) cs
    go false = stops-stopped NoTrackFile cs

pub from_start : (room : ℕ) (file : List ℕ) → stops (start_of room) file ≡ (ltb room 16384 || refused_at_once file)
unfolding start_of
from_start room file = go (ltb room 16384)
  where
    go : (x : Bool) → stops (cond x (Stopped (NoRoom 16384)) (PlaceCount Empty)) file ≡ (x || refused_at_once file)
    go true = stops-stopped (NoRoom 16384) file
    go false = in-place-count file
