-- Section 1 of the specification, rules 1.1 to 1.9: the cells of a track, and how they are kept in bytes. A cell is 0 or 1.
--
--   byte     0                 1                 2
--   bit      7 6 5 4 3 2 1 0   7 6 5 4 3 2 1 0   7 ..
--   cell     0 1 2 3 4 5 6 7   8 9 ..            16 ..
--
-- The main property: reading the packed cells gives the cells (`cell-packed`, in proofs/Packing). Assumes nothing.
use Rattle.std.specs.Prelude.{ℕ, zero, suc, ◌+◌, ◌-◌, ◌*◌, ◌/◌, ◌%◌, ◌^◌, min, Bool, cond, List, length, get_or, set, replicate, eqb, ltb}
use Rattle.std.specs.Int.Bits.{bit_or}
use Rattle.basis.specs.Lists.{listed, written_over}
use Rattle.basis.specs.Search.{least}

-- 1.3: bit i of a byte, counted from the top: bit 0 is its highest, bit 7 its lowest
abbrev pub bit_of : ℕ → ℕ → ℕ
bit_of byte i = byte / 2 ^ (7 - i) % 2

-- 1.3, 1.5: cell i of packed bytes. Each byte has eight, the first of them as its highest bit. A cell for which there is no byte is 0
unfoldable pub cell_at : List ℕ → ℕ → ℕ
cell_at bytes i = bit_of (get_or bytes (i / 8) 0) (i % 8)

-- 1.1, 1.2, 1.4, 1.5: place p on a ring of n cells is cell p mod n, so only the first n cells are looked at. Where n is 0, all cells are 0
unfoldable pub cell : List ℕ → ℕ → ℕ → ℕ
cell bytes n p = cond (ltb 0 n) (cell_at bytes (p % n)) 0

-- 1.6: the word of the k cells f p, f (p + 1), and so on: the number that they write, the first of them its highest bit. No cells give 0
unfoldable pub word : (ℕ → ℕ) → ℕ → ℕ → ℕ
word f zero p = 0
word f (suc k) p = 2 * word f k p + f (p + k)

-- 1.6: the word of k cells from p on a track, over the index where need be. A k above 64 counts as 64
unfoldable pub word_at : List ℕ → ℕ → ℕ → ℕ → ℕ
word_at bytes n p k = word (cell bytes n) (min k 64) p

-- 1.7: whether the word x of k cells stands at p
unfoldable pub stands : List ℕ → ℕ → ℕ → ℕ → ℕ → Bool
stands bytes n k x p = eqb (word_at bytes n p k) x

-- 1.7: the least place from `from` on and below `to` at which the word x of k cells stands; places may be counted on past n. Where there is
-- none, the greater of the two bounds
abbrev pub least_place : List ℕ → ℕ → ℕ → ℕ → ℕ → ℕ → ℕ
least_place bytes n k x from to = least (stands bytes n k x) (to - from) from

-- 1.3: how many bytes n cells need
abbrev pub bytes_for : ℕ → ℕ
bytes_for n = (n + 7) / 8

-- cell i of a list of cells; 0 past its end
abbrev pub list_cell : List ℕ → ℕ → ℕ
list_cell cells i = get_or cells i 0

-- 1.3: byte k of packed cells: the word of eight of them. Spare bits after the last cell are 0
unfoldable pub packed_byte : List ℕ → ℕ → ℕ
packed_byte cells k = word (list_cell cells) 8 (8 * k)

-- 1.3: cells packed, eight in each byte
unfoldable pub packed : List ℕ → List ℕ
packed cells = listed (packed_byte cells) (bytes_for (length cells))

-- 1.8: a buffer whose first k bytes are set to 0, or all of them where it has fewer
unfoldable pub cleared : ℕ → List ℕ → List ℕ
cleared k bytes = written_over (replicate (min k (length bytes)) 0) bytes

-- 1.9: a buffer with a one put at cell p, where it has such a cell; all other cells are kept (`cell-with-one`, in proofs/Ones)
unfoldable pub with_one : List ℕ → ℕ → List ℕ
with_one bytes p = set bytes (p / 8) (bit_or (get_or bytes (p / 8) 0) (2 ^ (7 - p % 8)))
