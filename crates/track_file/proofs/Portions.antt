-- Bytes one after another: a turn of the walk over a portion, a portion cut in two, and portions joined. Assumes
-- nothing.
use Prim.Native.Nat.{ℕ, ◌+◌, ◌≤◌, ◌<◌}
use mathlib.Core.Path.{◌≡◌, refl, sym, ◌∙◌, ap}
use mathlib.Core.List.{List, [], ◌∷◌, ◌++◌, append-nil}
use native.Mathlib.Numerals.{add-one}
use native.Mathlib.Omega.{arith}
use lib.ListN.{length, get_or, take, drop, set}
use lib.Seq.{drop-cons, get_or-take}
use Rattle.file_reader.specs.Bytes.{reader_after_byte, cells_after_byte}
use Rattle.track_file.specs.Portions.{start_of, start_cells, reader_after, cells_after, reader_after_all, cells_after_all, reader_through, cells_through, whole_of}
use Rattle.file_reader.specs.declared.Place.{Place}
use Rattle.file_reader.specs.declared.Reader.{Reader}
use Rattle.file_reader.specs.declared.Reader.TheVariants.{PackedCells}
use Rattle.file_reader.proofs.Sections.{more_bytes}
use Rattle.cells.specs.CellsAndBytes.{bytes_for}

-- a portion cut in two
pub reader-cut : (reader : Reader) (a b : List ℕ) → reader_after reader (a ++ b) ≡ reader_after (reader_after reader a) b
unfolding reader_after
reader-cut reader [] b = refl
reader-cut reader (byte ∷ a) b = reader-cut (reader_after_byte reader byte) a b

pub cells_cut : (reader : Reader) (a b buffer : List ℕ) → cells_after reader (a ++ b) buffer ≡ cells_after (reader_after reader a) b (cells_after reader a buffer)
unfolding reader_after cells_after
cells_cut reader [] b buffer = refl
cells_cut reader (byte ∷ a) b buffer = cells_cut (reader_after_byte reader byte) a b (cells_after_byte reader byte buffer)

-- portions joined
pub reader-joined : (reader : Reader) (portions : List (List ℕ)) → reader_after_all reader portions ≡ reader_after reader (whole_of portions)
unfolding reader_after reader_after_all whole_of
reader-joined reader [] = refl
reader-joined reader (portion ∷ portions) = reader-joined (reader_after reader portion) portions ∙ sym (reader-cut reader portion (whole_of portions))

pub cells-joined : (reader : Reader) (portions : List (List ℕ)) (buffer : List ℕ) → cells_after_all reader portions buffer ≡ cells_after reader (whole_of portions) buffer
unfolding cells_after cells_after_all whole_of
cells-joined reader [] buffer = refl
cells-joined reader (portion ∷ portions) buffer =
    cells-joined (reader_after reader portion) portions (cells_after reader portion buffer) ∙ sym (cells_cut reader portion (whole_of portions) buffer)

-- one portion more, for a caller that feeds them in a loop
pub cells-then : (portion : List ℕ) (reader : Reader) (portions : List (List ℕ)) (buffer : List ℕ)
    → cells_after_all reader (portions ++ (portion ∷ [])) buffer ≡ cells_after (reader_after_all reader portions) portion (cells_after_all reader portions buffer)
unfolding reader_after_all cells_after_all
cells-then portion reader [] buffer = refl
cells-then portion reader (first ∷ portions) buffer = cells-then portion (reader_after reader first) portions (cells_after reader first buffer)

-- a file in one portion
pub in-one-portion : (buffer file : List ℕ) {start reader : Reader} {cleared cells : List ℕ} → (start ≡ start_of (length buffer)) × (cleared ≡ start_cells buffer)
    → (reader ≡ reader_after start file) × (cells ≡ cells_after start file cleared)
    → (reader ≡ reader_through buffer (file ∷ [])) × ((cells ≡ cells_through buffer (file ∷ [])) × (whole_of (file ∷ []) ≡ file))
unfolding reader_after_all cells_after_all whole_of
in-one-portion buffer file started fed =
    (rw (← started.0) fed.0, (rw (← started.0, ← started.1) fed.1, append-nil file))

-- the byte at i
byte_at : (portion : List ℕ) (i : ℕ) → i < length portion → drop i portion ≡ get_or portion i 0 ∷ drop (i + 1) portion
byte_at portion i h = rw (add-one, drop-cons portion i 0)

-- the bytes of a portion before `rest` are fed
pub record Fed (portion cells₀ : List ℕ) (reader₀ : Reader) (rest cells : List ℕ) (reader : Reader) : Type 0 where
  pub to_reader : reader_after reader rest ≡ reader_after reader₀ portion
  pub to_cells : cells_after reader rest cells ≡ cells_after reader₀ portion cells₀

module _ {portion cells₀ : List ℕ} {reader₀ : Reader} {rest cells : List ℕ} {reader : Reader} (fed : Fed portion cells₀ reader₀ rest cells reader) where
  -- a byte more
  pub byte-fed : {byte : ℕ} {behind : List ℕ} → rest ≡ byte ∷ behind → {next : Reader} {after : List ℕ}
      → next ≡ reader_after_byte reader byte → after ≡ cells_after_byte reader byte cells → Fed portion cells₀ reader₀ behind after next
  unfolding reader_after cells_after
  byte-fed is e f =
      record {
        to_reader = rw e (ap (reader_after reader) (sym is) ∙ fed.to_reader);
        to_cells = rw (e, f) (ap (λ (x : List ℕ). cells_after reader x cells) (sym is) ∙ fed.to_cells);
      }

  -- some bytes more
  pub more-fed : {behind : List ℕ} {next : Reader} {after : List ℕ} → reader_after next behind ≡ reader_after reader rest
      → cells_after next behind after ≡ cells_after reader rest cells → Fed portion cells₀ reader₀ behind after next
  more-fed e f = record { to_reader = e ∙ fed.to_reader; to_cells = f ∙ fed.to_cells }

-- all of them
pub all-fed : {portion cells₀ : List ℕ} {reader₀ : Reader} {rest cells : List ℕ} {reader : Reader} → Fed portion cells₀ reader₀ rest cells reader
    → length rest ≡ 0 → (reader ≡ reader_after reader₀ portion) × (cells ≡ cells_after reader₀ portion cells₀)
unfolding reader_after cells_after
all-fed {rest = []} fed e = (fed.to_reader, fed.to_cells)
all-fed {rest = byte ∷ behind} fed e = let z : ⊥ = omega arith in absurd z

-- a byte of packed cells that is not the last, as the byte i of the first `end`
pub packed-fed : {portion cells₀ : List ℕ} {reader₀ : Reader} {cells : List ℕ} {place : Place} {count at i : ℕ} (end : ℕ)
    → Fed portion cells₀ reader₀ (drop i portion) cells (PackedCells place count at) → i < end → end ≤ length portion → at + 1 < bytes_for count
    → {next : ℕ} → next ≡ at + 1 → {after : List ℕ} → after ≡ set cells at (get_or (take end portion) i 0)
    → Fed portion cells₀ reader₀ (drop (i + 1) portion) after (PackedCells place count next)
unfolding reader_after_byte cells_after_byte
packed-fed {portion} {place = place} {count} {at} {i} end fed h k some n e =
    byte-fed fed (byte_at portion i (omega arith)) (ap (PackedCells place count) n ∙ more_bytes place count at some) (rw (← get_or-take end portion i 0 h) e)
