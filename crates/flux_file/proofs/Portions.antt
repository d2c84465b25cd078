-- Bytes one after another: a turn of the walk over a portion, a portion cut in two, and portions joined. Assumes
-- nothing.
use Prim.Native.Nat.{ℕ, zero, suc, ◌+◌, ◌-◌, ◌*◌, ◌≤◌, ◌<◌}
use mathlib.Core.Path.{◌≡◌, refl, sym, ◌∙◌, ap}
use mathlib.Core.List.{List, [], ◌∷◌, ◌++◌, append-nil}
use native.Mathlib.Omega.{arith}
use lib.ListN.{length, get_or, take, drop, length-drop}
use lib.Seq.{drop-drop, get_or-take}
use Rattle.std.specs.Simd.{first_chunks}
use Rattle.basis.specs.Bytes.{four_bytes}
use Rattle.taken_timings.specs.Timings.{taken_after, taken_cells}
use Rattle.file_reader.specs.Bytes.{number_after}
use Rattle.flux_reader.specs.Bytes.{in_timing, in_timing_cells, reader_after_byte, cells_after_byte}
use Rattle.track_file.specs.Portions.{start_cells, whole_of}
use Rattle.flux_file.specs.Portions.{start_of, reader_after, cells_after, reader_after_all, cells_after_all, reader_through, cells_through}
use Rattle.file_reader.specs.declared.Place.{Place}
use Rattle.file_reader.specs.declared.Number.TheVariants.{Empty}
use Rattle.std.specs.Prelude.{Result}
use Rattle.taken_timings.specs.declared.Taken.{Taken}
use Rattle.flux_reader.specs.declared.FluxReader.{FluxReader}
use Rattle.flux_reader.specs.declared.FluxReader.TheVariants.{Timings}
use Rattle.flux_reader.proofs.Sections.{more-timings}

-- a portion cut in two
pub reader-cut : (reader : FluxReader) (a b : List ℕ) → reader_after reader (a ++ b) ≡ reader_after (reader_after reader a) b
unfolding reader_after
reader-cut reader [] b = refl
reader-cut reader (byte ∷ a) b = reader-cut (reader_after_byte reader byte) a b

pub cells_cut : (reader : FluxReader) (a b buffer : List ℕ) → cells_after reader (a ++ b) buffer ≡ cells_after (reader_after reader a) b (cells_after reader a buffer)
unfolding reader_after cells_after
cells_cut reader [] b buffer = refl
cells_cut reader (byte ∷ a) b buffer = cells_cut (reader_after_byte reader byte) a b (cells_after_byte reader byte buffer)

-- portions joined
pub reader-joined : (reader : FluxReader) (portions : List (List ℕ)) → reader_after_all reader portions ≡ reader_after reader (whole_of portions)
unfolding reader_after reader_after_all whole_of
reader-joined reader [] = refl
reader-joined reader (portion ∷ portions) = reader-joined (reader_after reader portion) portions ∙ sym (reader-cut reader portion (whole_of portions))

pub cells-joined : (reader : FluxReader) (portions : List (List ℕ)) (buffer : List ℕ) → cells_after_all reader portions buffer ≡ cells_after reader (whole_of portions) buffer
unfolding cells_after cells_after_all whole_of
cells-joined reader [] buffer = refl
cells-joined reader (portion ∷ portions) buffer =
    cells-joined (reader_after reader portion) portions (cells_after reader portion buffer) ∙ sym (cells_cut reader portion (whole_of portions) buffer)

-- one portion more, for a caller that feeds them in a loop
pub cells-then : (portion : List ℕ) (reader : FluxReader) (portions : List (List ℕ)) (buffer : List ℕ)
    → cells_after_all reader (portions ++ (portion ∷ [])) buffer ≡ cells_after (reader_after_all reader portions) portion (cells_after_all reader portions buffer)
unfolding reader_after_all cells_after_all
cells-then portion reader [] buffer = refl
cells-then portion reader (first ∷ portions) buffer = cells-then portion (reader_after reader first) portions (cells_after reader first buffer)

-- a file in one portion
pub in-one-portion : (buffer file : List ℕ) {start reader : FluxReader} {cleared cells : List ℕ} → (start ≡ start_of (length buffer)) × (cleared ≡ start_cells buffer)
    → (reader ≡ reader_after start file) × (cells ≡ cells_after start file cleared)
    → (reader ≡ reader_through buffer (file ∷ [])) × ((cells ≡ cells_through buffer (file ∷ [])) × (whole_of (file ∷ []) ≡ file))
unfolding reader_after_all cells_after_all whole_of
in-one-portion buffer file started fed =
    (rw (← started.0) fed.0, (rw (← started.0, ← started.1) fed.1, append-nil file))

-- the bytes of a portion before `rest` are fed
pub record Fed (portion cells₀ : List ℕ) (reader₀ : FluxReader) (rest cells : List ℕ) (reader : FluxReader) : Type 0 where
  pub to_reader : reader_after reader rest ≡ reader_after reader₀ portion
  pub to_cells : cells_after reader rest cells ≡ cells_after reader₀ portion cells₀

module _ {portion cells₀ : List ℕ} {reader₀ : FluxReader} {rest cells : List ℕ} {reader : FluxReader} (fed : Fed portion cells₀ reader₀ rest cells reader) where
  -- a byte more
  pub byte-fed : {byte : ℕ} {behind : List ℕ} → rest ≡ byte ∷ behind → {next : FluxReader} {after : List ℕ}
      → next ≡ reader_after_byte reader byte → after ≡ cells_after_byte reader byte cells → Fed portion cells₀ reader₀ behind after next
  unfolding reader_after cells_after
  byte-fed is e f =
      record {
        to_reader = rw e (ap (reader_after reader) (sym is) ∙ fed.to_reader);
        to_cells = rw (e, f) (ap (λ (x : List ℕ). cells_after reader x cells) (sym is) ∙ fed.to_cells);
      }

  -- some bytes more
  pub more-fed : {behind : List ℕ} {next : FluxReader} {after : List ℕ} → reader_after next behind ≡ reader_after reader rest
      → cells_after next behind after ≡ cells_after reader rest cells → Fed portion cells₀ reader₀ behind after next
  more-fed e f = record { to_reader = e ∙ fed.to_reader; to_cells = f ∙ fed.to_cells }

-- all of them
pub all-fed : {portion cells₀ : List ℕ} {reader₀ : FluxReader} {rest cells : List ℕ} {reader : FluxReader} → Fed portion cells₀ reader₀ rest cells reader
    → length rest ≡ 0 → (reader ≡ reader_after reader₀ portion) × (cells ≡ cells_after reader₀ portion cells₀)
unfolding reader_after cells_after
all-fed {rest = []} fed e = (fed.to_reader, fed.to_cells)
all-fed {rest = byte ∷ behind} fed e = let z : ⊥ = omega arith in absurd z

-- the four bytes of a timing that is whole
four-front : (bytes : List ℕ) → 4 ≤ length bytes
    → bytes ≡ get_or (take 4 bytes) 0 0 ∷ get_or (take 4 bytes) 1 0 ∷ get_or (take 4 bytes) 2 0 ∷ get_or (take 4 bytes) 3 0 ∷ drop 4 bytes
four-front [] h = let z : ⊥ = omega arith in absurd z
four-front (a ∷ []) h = let z : ⊥ = omega arith in absurd z
four-front (a ∷ b ∷ []) h = let z : ⊥ = omega arith in absurd z
four-front (a ∷ b ∷ c ∷ []) h = let z : ⊥ = omega arith in absurd z
four-front (a ∷ b ∷ c ∷ d ∷ rest) h = refl

-- timing i of those that a portion has whole
chunk-at : (k i : ℕ) (bytes : List ℕ) → i < k → get_or (first_chunks 4 k bytes) i [] ≡ take 4 (drop (4 * i) bytes)
chunk-at zero i bytes h = let z : ⊥ = omega arith in absurd z
chunk-at (suc k) zero bytes h = refl
chunk-at (suc k) (suc i) bytes h =
    let n : 4 + 4 * i ≡ 4 * suc i = omega arith in
    chunk-at k i (drop 4 bytes) (omega arith) ∙ ap (take 4) (drop-drop (4 * i) 4 bytes ∙ ap (λ (m : ℕ). drop m bytes) n)

-- a whole timing that is not the last, as timing i of those that the portion has whole, of which the first `end` are taken
pub timing-fed : {portion cells₀ : List ℕ} {reader₀ : FluxReader} {cells : List ℕ} {place : Place} {left : ℕ} {taken : Result Taken ℕ} {i : ℕ} (k end : ℕ)
    → Fed portion cells₀ reader₀ (drop (4 * i) portion) cells (Timings place left Empty taken) → i < end → end ≤ k → 4 * k ≤ length portion → 1 < left → {fewer : ℕ} → fewer ≡ left - 1
    → {chunk : List ℕ} → chunk ≡ get_or (take end (first_chunks 4 k portion)) i []
    → {t : ℕ} → t ≡ four_bytes (get_or chunk 0 0) (get_or chunk 1 0) (get_or chunk 2 0) (get_or chunk 3 0)
    → {next : Result Taken ℕ} {after : List ℕ} → next ≡ taken_after taken t → after ≡ taken_cells taken t cells
    → Fed portion cells₀ reader₀ (drop (4 * (i + 1)) portion) after (Timings place fewer Empty next)
unfolding reader_after cells_after reader_after_byte cells_after_byte number_after in_timing in_timing_cells
timing-fed {portion} {cells = cells} {place} {left} {taken} {i} k end fed h m l some less {chunk} is {t} number {next} {after} e f =
    let here = drop (4 * i) portion in
    let n : 4 * i + 4 ≡ 4 * (i + 1) = omega arith in
    let rest : here ≡ get_or chunk 0 0 ∷ get_or chunk 1 0 ∷ get_or chunk 2 0 ∷ get_or chunk 3 0 ∷ drop (4 * (i + 1)) portion =
    four-front here (omega (arith, length-drop (4 * i) portion))
    ∙ ap (λ (x : List ℕ). get_or x 0 0 ∷ get_or x 1 0 ∷ get_or x 2 0 ∷ get_or x 3 0 ∷ drop 4 here)
    (sym (is ∙ get_or-take end (first_chunks 4 k portion) i [] h ∙ chunk-at k i portion (omega arith)))
    ∙ ap (λ (x : List ℕ). get_or chunk 0 0 ∷ get_or chunk 1 0 ∷ get_or chunk 2 0 ∷ get_or chunk 3 0 ∷ x) (drop-drop 4 (4 * i) portion ∙ ap (λ (m : ℕ). drop m portion) n) in
    let step = more-timings place left next some in
    record {
      to_reader = rw (less, step, e, number) (ap (reader_after (Timings place left Empty taken)) (sym rest) ∙ fed.to_reader);
      to_cells = rw (less, step, e, f, number) (ap (λ (x : List ℕ). cells_after (Timings place left Empty taken) x cells) (sym rest) ∙ fed.to_cells);
    }
