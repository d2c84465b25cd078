-- What only the contracts of private functions need: the same a byte of the list at a time. Assumes nothing.
use Rattle.std.specs.Prelude.{ℕ, ◌/◌, ◌%◌, ◌<◌, ◌≤◌, ◌≡◌, true, false, cond, List, [], ◌∷◌, ◌++◌, eqb}
use Rattle.crc.specs.CheckWord.{after_byte}
use Rattle.mfm.specs.Coding.{byte_cells}
use Rattle.track_writer.specs.WriteTrack.{pieces_from, packed_from}
use Rattle.track_writer.specs.declared.Writer.{Writer}

-- sixteen cells, packed
abbrev pub two_bytes : ℕ → List ℕ
two_bytes x = x / 256 ∷ x % 256 ∷ []

-- the data bit before the next piece
abbrev pub bit_before : Writer → ℕ
bit_before s = cond s.odd 1 0

-- what is put for a byte of the list
unfoldable pub packed_for : Writer → ℕ → List ℕ
packed_for s b =
    cond (eqb b 0xF5) (two_bytes 0x4489)
    (cond (eqb b 0xF6) (two_bytes 0x5224)
    (cond (eqb b 0xF7) (two_bytes (byte_cells (bit_before s) (s.word / 256)) ++ two_bytes (byte_cells (s.word / 256 % 2) (s.word % 256)))
    (two_bytes (byte_cells (bit_before s) b))))

-- the writer after it
unfoldable pub next : Writer → ℕ → Writer
next s b =
    cond (eqb b 0xF5) (record { word = after_byte (cond s.run s.word 0xFFFF) 0xA1; odd = true; run = true })
    (cond (eqb b 0xF6) (record { word = after_byte s.word 0xC2; odd = false; run = false })
    (cond (eqb b 0xF7)
    (record { word = after_byte (after_byte s.word (s.word / 256)) (s.word % 256); odd = eqb (s.word % 256 % 2) 1; run = false })
    (record { word = after_byte s.word b; odd = eqb (b % 2) 1; run = false })))

-- what is put for all that is left of the list
unfoldable pub rest : Writer → List ℕ → List ℕ
rest s list = packed_from (bit_before s) (pieces_from s.word s.run list)

-- how many pieces a byte of the list gives
abbrev pub pieces_for : ℕ → ℕ
pieces_for b = cond (eqb b 0xF7) 2 1

-- r is n where n is at most 8,192; else r is some number above 8,192 as well
pub record UpToMost (n r : ℕ) : Type 0 where
  pub exact : n ≤ 8192 → r ≡ n
  pub more : 8192 < n → 8192 < r
