-- Section 1 of the specification, rules 1.10 to 1.16: MFM coding and decoding.
--
--   data bits           1       0       0       1      ..     from a byte's highest bit to its lowest
--   cells             0 1     0 0     1 0     0 1      ..     for each its clock, and then the bit itself
--
-- The main property, rule 1.16: decoding what was coded gives the bytes (`decoded-encoded`, in proofs/RoundTrip). Assumes nothing.
use Rattle.std.specs.Prelude.{ℕ, ◌+◌, ◌*◌, ◌/◌, cond, ◌&&◌, List, [], ◌∷◌, ◌++◌, length, eqb}
use Rattle.basis.specs.Lists.{listed}
use Rattle.cells.specs.CellsAndBytes.{bit_of, cell_at, word, list_cell, packed}

-- 1.12: the data bits of bytes, each byte from its highest bit to its lowest
unfoldable pub data_bits : List ℕ → List ℕ
data_bits [] = []
data_bits (byte ∷ bytes) = listed (bit_of byte) 8 ++ data_bits bytes

-- 1.11: the clock of a data bit: 1 where that bit is 0 and the one before it is 0 too, and else 0
abbrev pub clock : ℕ → ℕ → ℕ
clock before bit = cond (eqb before 0 && eqb bit 0) 1 0

-- 1.10: each data bit makes two cells: its clock, and the bit itself. `before` is the data bit before the first
unfoldable pub bit_cells : ℕ → List ℕ → List ℕ
bit_cells before [] = []
bit_cells before (bit ∷ bits) = clock before bit ∷ bit ∷ bit_cells bit bits

-- 1.13: bytes coded one after the other, and packed; `before` is the data bit before the first byte
unfoldable pub encoded : ℕ → List ℕ → List ℕ
encoded before bytes = packed (bit_cells before (data_bits bytes))

-- 1.12: the sixteen cells of one byte, as a number
unfoldable pub byte_cells : ℕ → ℕ → ℕ
byte_cells before byte = word (list_cell (bit_cells before (listed (bit_of byte) 8))) 16 0

-- 1.14: data cell i of the sixteen cells from p of the cells f: the second of each two
abbrev pub data_cell : (ℕ → ℕ) → ℕ → ℕ → ℕ
data_cell f p i = f (p + (2 * i + 1))

-- 1.14: the byte whose sixteen cells start at p. Its data cells alone make it; the clocks are dropped without being judged
unfoldable pub byte_on : (ℕ → ℕ) → ℕ → ℕ
byte_on f p = word (data_cell f p) 8 0

-- 1.15: byte i that cells decode to, from their bytes 2i and 2i + 1: the cells 16i to 16i + 15
unfoldable pub decoded_byte : List ℕ → ℕ → ℕ
decoded_byte cells i = byte_on (cell_at cells) (16 * i)

-- 1.15, 1.16: each two bytes of cells decode to a byte; a last one that stands alone is passed over. What `encoded` makes of bytes decodes
-- to the same bytes (`decoded-encoded`, in proofs/RoundTrip)
unfoldable pub decoded : List ℕ → List ℕ
decoded cells = listed (decoded_byte cells) (length cells / 2)
