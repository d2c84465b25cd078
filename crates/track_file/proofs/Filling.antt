-- The cell buffer after the bytes of a file that is accepted, taken one by one from a buffer of zeros. Assumes nothing.
use Prim.Native.Nat.{ℕ, zero, suc, ◌+◌, ◌-◌, ◌≤◌}
use mathlib.Core.Path.{◌≡◌, refl, sym, ◌∙◌, ap}
use mathlib.Core.Bool.{Bool, true, false, cond}
use mathlib.Core.List.{List, [], ◌∷◌, ◌++◌}
use native.Mathlib.Numerals.{add-one}
use native.Mathlib.Omega.{arith}
use borrow.Author.Tests.{ltb-false, eqb-true, eqb-false}
use lib.Dec.{eqb, ltb}
use lib.ListN.{length, set, take, drop, replicate, length-drop, length-replicate}
use lib.Seq.{sets, sets-eq, length-take-le}
use Rattle.basis.specs.Lists.{written_over}
use Rattle.cells.specs.CellsAndBytes.{bytes_for}
use Rattle.refusals.specs.RefusedCalls.Answer.{gives}
use Rattle.refusals.specs.declared.Refusal.TheVariants.{CellCount as CellsRefused, FluxSection, NotATrackFile as NoTrackFile}
use Rattle.basis.specs.Bytes.{four_bytes, number}
use Rattle.track_file.specs.TrackFile.{Content, packed_bytes}
use Rattle.file_reader.specs.Bytes.{number_after, after_place_count, after_cell_count, after_flux_count, in_place_count, in_cell_count, in_flux_count, reader_after_byte, cells_after_byte}
use Rattle.track_file.specs.Portions.{reader_after, cells_after, finish_answer}
use Rattle.file_reader.specs.declared.Place.{Place}
use Rattle.file_reader.specs.declared.Number.TheVariants.{Empty}
use Rattle.file_reader.specs.declared.Reader.{Reader}
use Rattle.file_reader.specs.declared.Reader.TheVariants.{PlaceCount, Track, CellCount, PackedCells, FluxCount, AllCells, NotATrackFile, Stopped}
use Rattle.file_reader.proofs.Sections.{more_bytes, last_byte}
use Rattle.track_file.proofs.Staged.{never, ends, ends-stopped, ends-no-file, some_of, packed-end}

no-file-stays : (bytes buffer : List ℕ) → cells_after NotATrackFile bytes buffer ≡ buffer
unfolding cells_after reader_after_byte cells_after_byte
no-file-stays [] buffer = refl
no-file-stays (byte ∷ bytes) buffer = no-file-stays bytes buffer

all-cells-stay : (place : Place) (n : ℕ) (bytes buffer : List ℕ) → cells_after (AllCells place n) bytes buffer ≡ buffer
unfolding cells_after reader_after_byte cells_after_byte
all-cells-stay place n [] buffer = refl
all-cells-stay place n (byte ∷ bytes) buffer = no-file-stays bytes buffer

abbrev zeros : ℕ → List ℕ
zeros room = replicate room 0

module _ (place : Place) (room : ℕ) (big : 16384 ≤ room) (content : Content) where
  after-flux-count : (n v : ℕ) (ys buffer : List ℕ) → ends (after_flux_count place n v) ys ≡ gives content
      → cells_after (after_flux_count place n v) ys buffer ≡ buffer
  unfolding after_flux_count
  after-flux-count n v ys buffer e = go (eqb v 0) (eqb n 0) e
    where
      go : (x y : Bool) → ends (cond x (cond y NotATrackFile (AllCells place n)) (Stopped FluxSection)) ys ≡ gives content
          → cells_after (cond x (cond y NotATrackFile (AllCells place n)) (Stopped FluxSection)) ys buffer ≡ buffer
      go true true e = never (sym (ends-no-file ys) ∙ e)
      go true false e = all-cells-stay place n ys buffer
      go false y e = never (sym (ends-stopped FluxSection ys) ∙ e)

  flux-buffer : (n : ℕ) (fs buffer : List ℕ) → ends (FluxCount place n Empty) fs ≡ gives content
      → (cells_after (FluxCount place n Empty) fs buffer ≡ buffer) × (4 ≤ length fs)
  unfolding reader_after cells_after reader_after_byte cells_after_byte number_after in_flux_count finish_answer
  flux-buffer n [] buffer e = never e
  flux-buffer n (a ∷ []) buffer e = never e
  flux-buffer n (a ∷ b ∷ []) buffer e = never e
  flux-buffer n (a ∷ b ∷ c ∷ []) buffer e = never e
  flux-buffer n (a ∷ b ∷ c ∷ d ∷ ys) buffer e = (after-flux-count n (four_bytes a b c d) ys buffer e, omega arith)

  -- the packed bytes
  packed-buffer : (n k at : ℕ) (xs buffer : List ℕ) → at + suc k ≡ bytes_for n
      → cells_after (PackedCells place n at) xs buffer ≡ cells_after (FluxCount place n Empty) (drop (suc k) xs) (sets buffer at (take (suc k) xs))
  unfolding cells_after reader_after_byte cells_after_byte
  packed-buffer n k at [] buffer e = refl
  packed-buffer n zero at (x ∷ xs) buffer e = ap (λ (s : Reader). cells_after s xs (set buffer at x)) (sym (last_byte place n at (omega arith)))
  packed-buffer n (suc k) at (x ∷ xs) buffer e =
      ap (λ (s : Reader). cells_after s xs (set buffer at x)) (sym (more_bytes place n at (omega arith)))
      ∙ packed-buffer n k (at + 1) xs (set buffer at x) (omega arith)
      ∙ ap (λ (i : ℕ). cells_after (FluxCount place n Empty) (drop (suc k) xs) (sets (set buffer at x) i (take (suc k) xs))) (add-one at)

  -- the cells of the file that has the bytes xs after a cell count of n
  abbrev cells_in : ℕ → List ℕ → List ℕ
  cells_in n xs = take (bytes_for n) xs

  some-buffer : (n k : ℕ) (xs : List ℕ) → n ≤ 131072 → suc k ≡ bytes_for n → ends (PackedCells place n 0) xs ≡ gives content
      → cells_after (PackedCells place n 0) xs (zeros room) ≡ written_over (cells_in n xs) (zeros room)
  some-buffer n k xs h e a =
      let buffer = sets (zeros room) 0 (take (suc k) xs) in
      let flux = flux-buffer n (drop (suc k) xs) buffer (sym (packed-end place n k 0 xs (omega arith)) ∙ a) in
      let len = length-drop (suc k) xs in
      let four = flux.1 in
      let lt : length (take (suc k) xs) ≡ suc k = length-take-le (suc k) xs (omega arith) in
      let lz : length (zeros room) ≡ room = length-replicate room 0 in
      packed-buffer n k 0 xs (zeros room) (omega arith) ∙ flux.0
      ∙ sets-eq (take (suc k) xs) (zeros room) 0 (omega arith) ∙ from_zero (length (take (suc k) xs)) (take (suc k) xs)
      ∙ ap (λ (i : ℕ). written_over (take i xs) (zeros room)) e
    where
      from_zero : (m : ℕ) (front : List ℕ) → front ++ drop (0 + m) (zeros room) ≡ front ++ drop m (zeros room)
      from_zero m front = let z : 0 + m ≡ m = omega arith in ap (λ (x : ℕ). front ++ drop x (zeros room)) z

  none-buffer : (n : ℕ) (xs : List ℕ) → n ≡ 0 → ends (FluxCount place 0 Empty) xs ≡ gives content → cells_after (FluxCount place 0 Empty) xs (zeros room) ≡ written_over (cells_in n xs) (zeros room)
  none-buffer n xs e a = (flux-buffer 0 xs (zeros room) a).0 ∙ ap (λ (i : ℕ). written_over (cells_in i xs) (zeros room)) (sym e)

  after-cell-count : (n : ℕ) (xs : List ℕ) → ends (after_cell_count place n) xs ≡ gives content → cells_after (after_cell_count place n) xs (zeros room) ≡ written_over (cells_in n xs) (zeros room)
  unfolding after_cell_count
  after-cell-count n xs e = go (ltb 131072 n) (eqb n 0) refl refl e
    where
      go : (x y : Bool) → ltb 131072 n ≡ x → eqb n 0 ≡ y
          → ends (cond x (Stopped (CellsRefused n)) (cond y (FluxCount place 0 Empty) (PackedCells place n 0))) xs ≡ gives content
          → cells_after (cond x (Stopped (CellsRefused n)) (cond y (FluxCount place 0 Empty) (PackedCells place n 0))) xs (zeros room) ≡ written_over (cells_in n xs) (zeros room)
      go true y a b e = never (sym (ends-stopped (CellsRefused n) xs) ∙ e)
      go false true a b e = none-buffer n xs (eqb-true n 0 b) e
      go false false a b e =
          some-buffer n (bytes_for n - 1) xs (ltb-false 131072 n a) (omega (arith, some_of n (eqb-false n 0 b))) e

  cell-buffer : (cs : List ℕ) → ends (CellCount place Empty) cs ≡ gives content
      → cells_after (CellCount place Empty) cs (zeros room) ≡ written_over (cells_in (number cs) (drop 4 cs)) (zeros room)
  unfolding reader_after cells_after reader_after_byte cells_after_byte number_after in_cell_count finish_answer
  cell-buffer [] e = never e
  cell-buffer (a ∷ []) e = never e
  cell-buffer (a ∷ b ∷ []) e = never e
  cell-buffer (a ∷ b ∷ c ∷ []) e = never e
  cell-buffer (a ∷ b ∷ c ∷ d ∷ xs) e = after-cell-count (four_bytes a b c d) xs e

-- the whole file
module _ (room : ℕ) (big : 16384 ≤ room) (content : Content) where
  pub file-filled : (file : List ℕ) → ends (PlaceCount Empty) file ≡ gives content
      → cells_after (PlaceCount Empty) file (replicate room 0) ≡ written_over (packed_bytes file) (replicate room 0)
  unfolding reader_after cells_after reader_after_byte cells_after_byte number_after in_place_count after_place_count finish_answer
  file-filled [] e = never e
  file-filled (a ∷ []) e = never e
  file-filled (a ∷ b ∷ []) e = never e
  file-filled (a ∷ b ∷ c ∷ []) e = never e
  file-filled (a ∷ b ∷ c ∷ d ∷ []) e = go (eqb (four_bytes a b c d) 2) e
    where
      go : {X : Type 0} (x : Bool) → finish_answer (cond x Track (Stopped NoTrackFile)) ≡ gives content → X
      go true e = never e
      go false e = never e
  file-filled (a ∷ b ∷ c ∷ d ∷ t ∷ []) e = go (eqb (four_bytes a b c d) 2) e
    where
      go : {X : Type 0} (x : Bool) → finish_answer (reader_after_byte (cond x Track (Stopped NoTrackFile)) t) ≡ gives content → X
      go true e = never e
      go false e = never e
  file-filled (a ∷ b ∷ c ∷ d ∷ t ∷ h ∷ cs) e = go (eqb (four_bytes a b c d) 2) e
    where
      go : (x : Bool) → ends (cond x Track (Stopped NoTrackFile)) (t ∷ h ∷ cs) ≡ gives content
          → cells_after (cond x Track (Stopped NoTrackFile)) (t ∷ h ∷ cs) (zeros room) ≡ written_over (packed_bytes (a ∷ b ∷ c ∷ d ∷ t ∷ h ∷ cs)) (zeros room)
      go true e = cell-buffer (record { track = t; side = h }) room big content cs e
      go false e = never (sym (ends-stopped NoTrackFile (t ∷ h ∷ cs)) ∙ e)
