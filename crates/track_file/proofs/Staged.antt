-- What the bytes of a file give, taken one by one, section after section. Assumes nothing.
use Prim.Native.Nat.{ℕ, zero, suc, ◌+◌, ◌-◌, ◌<◌}
use mathlib.Core.Path.{◌≡◌, refl, sym, ◌∙◌, ap, subst}
use mathlib.Core.Bool.{Bool, true, false, cond}
use mathlib.Core.List.{List, [], ◌∷◌}
use native.Mathlib.Omega.{arith}
use borrow.Author.Tests.{le-ltb, eq-eqb, ne_eqb, eqb-true, eqb-false}
use lib.Dec.{eqb, ltb}
use lib.ListN.{length, drop}
use Rattle.cells.specs.CellsAndBytes.{bytes_for}
use Rattle.refusals.specs.RefusedCalls.{Answer, refused_with}
use Rattle.refusals.specs.RefusedCalls.Answer.{gives, refused}
use Rattle.refusals.specs.declared.Refusal.{Refusal}
use Rattle.refusals.specs.declared.Refusal.TheVariants.{CellCount as CellsRefused, FluxSection}
use Rattle.basis.specs.Bytes.{four_bytes, number}
use Rattle.track_file.specs.TrackFile.{Content}
use Rattle.file_reader.specs.Bytes.{number_after, after_cell_count, after_flux_count, in_cell_count, in_flux_count, reader_after_byte}
use Rattle.track_file.specs.Portions.{reader_after, finish_answer}
use Rattle.file_reader.specs.declared.Place.{Place}
use Rattle.file_reader.specs.declared.Number.TheVariants.{Empty}
use Rattle.file_reader.specs.declared.Reader.{Reader}
use Rattle.file_reader.specs.declared.Reader.TheVariants.{CellCount, PackedCells, FluxCount, AllCells, NotATrackFile, Stopped}
use Rattle.file_reader.proofs.Sections.{more_bytes, last_byte}
use Rattle.track_file.proofs.Endings.{reader-stays}

-- what the file gives that has these bytes left where the reader stands so
abbrev pub ends : Reader → List ℕ → Answer Content
ends reader bytes = finish_answer (reader_after reader bytes)

abbrev pub short : Answer Content
short = refused 15 0

pub ends-stopped : (refusal : Refusal) (bytes : List ℕ) → ends (Stopped refusal) bytes ≡ refused_with refusal
unfolding finish_answer
ends-stopped refusal bytes = ap finish_answer (reader-stays refusal bytes)

pub no-file-stays : (bytes : List ℕ) → reader_after NotATrackFile bytes ≡ NotATrackFile
unfolding reader_after reader_after_byte
no-file-stays [] = refl
no-file-stays (byte ∷ bytes) = no-file-stays bytes

pub ends-no-file : (bytes : List ℕ) → ends NotATrackFile bytes ≡ short
unfolding finish_answer
ends-no-file bytes = ap finish_answer (no-file-stays bytes)

-- a refusal is no answer that is accepted
pub never : {A X : Type 0} {number value : ℕ} {given : A} → ◌≡◌ {A = Answer A} (refused number value) (gives given) → X
never e = let z : ◌≡◌ {A = ℕ} 0 1 = cc in let y : ⊥ = omega arith in absurd y

-- a number that is not 0
pub some_of : (m : ℕ) → (m ≡ 0 → ⊥) → 0 < m
some_of zero f = absurd (f refl)
some_of (suc m) f = omega arith

-- the flux section, after n cells
unfoldable pub flux_stage : Place → ℕ → List ℕ → Answer Content
flux_stage place n fs =
    cond (ltb (length fs) 4) short
    (cond (eqb (number fs) 0)
    (cond (eqb n 0) short (cond (eqb (length fs) 4) (gives (record { track = place.track; side = place.side; cells = n })) short))
    (refused 23 0))

-- the cell section and what follows
unfoldable pub cell_stage : Place → List ℕ → Answer Content
cell_stage place cs =
    cond (ltb (length cs) 4) short
    (cond (ltb 131072 (number cs)) (refused 2 (number cs)) (flux_stage place (number cs) (drop (bytes_for (number cs)) (drop 4 cs))))

module _ (place : Place) where
  abbrev at_place : ℕ → Answer Content
  at_place n = gives (record { track = place.track; side = place.side; cells = n })

  cells-end : (n len : ℕ) (ys : List ℕ) → len ≡ 4 + length ys → ends (AllCells place n) ys ≡ cond (eqb len 4) (at_place n) short
  unfolding reader_after reader_after_byte finish_answer
  cells-end n len [] e = rw (eq-eqb len 4 (omega arith))
  cells-end n len (y ∷ ys) e = rw (ne_eqb len 4 (λ w. omega arith)) (ends-no-file ys)

  after-flux-count : (n v len : ℕ) (ys : List ℕ) → len ≡ 4 + length ys
      → ends (after_flux_count place n v) ys ≡ cond (eqb v 0) (cond (eqb n 0) short (cond (eqb len 4) (at_place n) short)) (refused 23 0)
  unfolding after_flux_count
  after-flux-count n v len ys e = go (eqb v 0) (eqb n 0)
    where
      go : (x y : Bool)
          → ends (cond x (cond y NotATrackFile (AllCells place n)) (Stopped FluxSection)) ys ≡ cond x (cond y short (cond (eqb len 4) (at_place n) short)) (refused 23 0)
      go true true = ends-no-file ys
      go true false = cells-end n len ys e
      go false y = ends-stopped FluxSection ys

  pub flux-end : (n : ℕ) (fs : List ℕ) → ends (FluxCount place n Empty) fs ≡ flux_stage place n fs
  unfolding reader_after reader_after_byte number_after in_flux_count finish_answer flux_stage
  flux-end n [] = refl
  flux-end n (a ∷ []) = refl
  flux-end n (a ∷ b ∷ []) = refl
  flux-end n (a ∷ b ∷ c ∷ []) = refl
  flux-end n (a ∷ b ∷ c ∷ d ∷ ys) =
      rw (le-ltb (suc (suc (suc (suc (length ys))))) 4 (omega arith)) (after-flux-count n (four_bytes a b c d) (suc (suc (suc (suc (length ys))))) ys (omega arith))

  -- the packed bytes
  pub packed-end : (n k at : ℕ) (xs : List ℕ) → at + suc k ≡ bytes_for n → ends (PackedCells place n at) xs ≡ ends (FluxCount place n Empty) (drop (suc k) xs)
  unfolding reader_after reader_after_byte finish_answer
  packed-end n k at [] e = refl
  packed-end n zero at (x ∷ xs) e = ap (λ (s : Reader). ends s xs) (sym (last_byte place n at (omega arith)))
  packed-end n (suc k) at (x ∷ xs) e = ap (λ (s : Reader). ends s xs) (sym (more_bytes place n at (omega arith))) ∙ packed-end n k (at + 1) xs (omega arith)

  after-cell-count : (n : ℕ) (xs : List ℕ) → ends (after_cell_count place n) xs ≡ cond (ltb 131072 n) (refused 2 n) (flux_stage place n (drop (bytes_for n) xs))
  unfolding after_cell_count
  after-cell-count n xs = go (ltb 131072 n) (eqb n 0) refl
    where
      none : (m : ℕ) → m ≡ 0 → ends (FluxCount place 0 Empty) xs ≡ flux_stage place m (drop (bytes_for m) xs)
      none m e = subst (λ (k : ℕ). ends (FluxCount place 0 Empty) xs ≡ flux_stage place k (drop (bytes_for k) xs)) (sym e) (flux-end 0 xs)

      some : (k : ℕ) → bytes_for n ≡ suc k → ends (PackedCells place n 0) xs ≡ flux_stage place n (drop (bytes_for n) xs)
      some k e =
          packed-end n k 0 xs (omega arith) ∙ ap (λ (m : ℕ). ends (FluxCount place n Empty) (drop m xs)) (sym e) ∙ flux-end n (drop (bytes_for n) xs)

      go : (x y : Bool) → eqb n 0 ≡ y
          → ends (cond x (Stopped (CellsRefused n)) (cond y (FluxCount place 0 Empty) (PackedCells place n 0))) xs ≡ cond x (refused 2 n) (flux_stage place n (drop (bytes_for n) xs))
      go true y b = ends-stopped (CellsRefused n) xs
      go false true b = none n (eqb-true n 0 b)
      go false false b = some (bytes_for n - 1) (omega (arith, some_of n (eqb-false n 0 b)))

  pub cell-end : (cs : List ℕ) → ends (CellCount place Empty) cs ≡ cell_stage place cs
  unfolding reader_after reader_after_byte number_after in_cell_count finish_answer cell_stage
  cell-end [] = refl
  cell-end (a ∷ []) = refl
  cell-end (a ∷ b ∷ []) = refl
  cell-end (a ∷ b ∷ c ∷ []) = refl
  cell-end (a ∷ b ∷ c ∷ d ∷ xs) = rw (le-ltb (suc (suc (suc (suc (length xs))))) 4 (omega arith)) (after-cell-count (four_bytes a b c d) xs)
