-- Section 6 of the specification: the record of a sector, and the sectors of a track. Here is double density; the layout has the lengths of each
-- density.
--
--   ID     p    mark   p+64  track  side  number  size code   p+128  check bytes   p+160
--   data   q    mark   q+64  L bytes              check bytes        data end: q + 64 + 16L + 32
--
-- f are the cells of the track, which go on round it. The main property: `sectors_of` has each ID mark's record, in the order of places.
-- Assumes nothing.
use Rattle.std.specs.Prelude.{ℕ, suc, ◌+◌, ◌-◌, ◌*◌, ◌%◌, Bool, false, not, cond, ◌&&◌, List, [], ◌∷◌, ◌++◌, eqb, leb, length, get_or, take, replicate}
use Rattle.basis.specs.Lists.{listed, joined}
use Rattle.basis.specs.Search.{least}
use Rattle.cells.specs.CellsAndBytes.{cell}
use Rattle.crc.specs.CheckWord.{check_word_from}
use Rattle.mfm.specs.Coding.{byte_on}
use Rattle.layouts.specs.declared.Layout.{Layout}
use Rattle.sector_records.specs.Marks.{id_mark_at, data_mark_at}
use Rattle.sector_records.specs.declared.Sector.{Sector}
use Rattle.sector_records.specs.declared.Sectors.{Sectors}

-- 6.14: two check bytes have 32 cells
abbrev pub check_length : ℕ
check_length = 32

-- byte i of the bytes that are coded from p on
unfoldable pub byte_from : (ℕ → ℕ) → ℕ → ℕ → ℕ
byte_from f p i = byte_on f (p + 16 * i)

-- 6.13: k bytes from p on. They may go over the index
unfoldable pub bytes_from : (ℕ → ℕ) → ℕ → ℕ → List ℕ
bytes_from f p k = listed (byte_from f p) k

-- 6.7, 6.13: two check bytes as one number, the high one first
unfoldable pub check_bytes : (ℕ → ℕ) → ℕ → ℕ
check_bytes f p = byte_on f p * 256 + byte_on f (p + 16)

-- 6.2, 6.22: the byte of the mark at p
abbrev pub mark_byte_at : Layout → (ℕ → ℕ) → ℕ → ℕ
mark_byte_at layout f p = byte_on f (p + layout.byte_place)

-- 6.8, 6.15, 6.25: the check of a field is good, whose mark stands at p and which has k bytes after its mark byte: the check bytes behind them
-- are the check word of what comes before the mark byte, which is A1 A1 A1 in double density, the mark byte and these k
unfoldable pub check_good : Layout → (ℕ → ℕ) → ℕ → ℕ → Bool
check_good layout f p k =
    eqb (check_word_from layout.check_start (bytes_from f (p + layout.byte_place) (suc k))) (check_bytes f (p + layout.mark_length + 16 * k))

-- 6.9: the least place that passes the test, of those from p + after to p + until; one more than the last of them where there is none
unfoldable pub least_within : (ℕ → Bool) → ℕ → ℕ → ℕ → ℕ
least_within test after until p = least test (until + 1 - after) (p + after)

-- 6.9, 6.10, 6.24: the place q of the data mark of an ID mark at p, from the end of the ID as far as the reach. The search asks for nothing but
-- a data mark, so it passes other IDs, and two sectors may find the same
abbrev pub least_data : Layout → (ℕ → ℕ) → ℕ → ℕ
least_data layout f p = least_within (data_mark_at layout f) layout.id_length layout.reach p

-- 6.9, 6.12, 6.24: there is a data mark at these places, so the sector has data
abbrev pub data_found : Layout → (ℕ → ℕ) → ℕ → Bool
data_found layout f p = leb (least_data layout f p) (p + layout.reach)

-- 6.11: the length L that a size code stands for. Only the code's remainder by 4 counts
unfoldable pub length_of : ℕ → ℕ
length_of code = get_or (128 ∷ 256 ∷ 512 ∷ 1024 ∷ []) (code % 4) 0

-- 6.6, 6.23: byte i of an ID, after its mark, which has `mark_length` cells: 0 is the track, 1 the side, 2 the number, 3 the size code
abbrev pub id_byte : (mark_length : ℕ) → (ℕ → ℕ) → ℕ → ℕ → ℕ
id_byte mark_length f p i = byte_on f (p + mark_length + 16 * i)

-- 6.12: the length of a sector's data; 0 where it has none
unfoldable pub data_length : Layout → (ℕ → ℕ) → ℕ → ℕ
data_length layout f p = cond (data_found layout f p) (length_of (id_byte layout.mark_length f p 3)) 0

-- 6.14, 6.24: where data ends whose mark, of `mark_length` cells, stands at q: after the mark, its bytes and their check bytes
abbrev pub end_of_data : (mark_length q length : ℕ) → ℕ
end_of_data mark_length q length = q + mark_length + 16 * length + check_length

-- 6.8, 6.15, 6.16, 6.20, 6.26: the record of the sector with its ID mark at p. Where it has no data, the place and the byte of the data mark and the
-- data end are 0, and the data check is bad
unfoldable pub sector_at : Layout → (ℕ → ℕ) → ℕ → Sector
sector_at layout f p =
    record {
      place = p;
      mark = mark_byte_at layout f p;
      track = id_byte layout.mark_length f p 0;
      side = id_byte layout.mark_length f p 1;
      number = id_byte layout.mark_length f p 2;
      size_code = id_byte layout.mark_length f p 3;
      id_check_good = check_good layout f p 4;
      data_place = cond (data_found layout f p) (least_data layout f p) 0;
      data_mark = cond (data_found layout f p) (mark_byte_at layout f (least_data layout f p)) 0;
      data_length = data_length layout f p;
      data_check_good = data_found layout f p && check_good layout f (least_data layout f p) (data_length layout f p);
      data_end = cond (data_found layout f p) (end_of_data layout.mark_length (least_data layout f p) (data_length layout f p)) 0;
      density = layout.density;
    }

-- 6.12, 6.16: a sector has data where its record has a data mark, whose byte is not 0
abbrev pub has_data : Sector → Bool
has_data s = not (eqb s.data_mark 0)

-- 6.17: a record of zeros, with both checks bad
abbrev pub no_sector : Sector
no_sector =
    record {
      place = 0;
      mark = 0;
      track = 0;
      side = 0;
      number = 0;
      size_code = 0;
      id_check_good = false;
      data_place = 0;
      data_mark = 0;
      data_length = 0;
      data_check_good = false;
      data_end = 0;
      density = 0;
    }

-- 6.5: what stands at p: a sector where it is an ID mark, also with a bad check, and else nothing
unfoldable pub sectors_at : Layout → (ℕ → ℕ) → ℕ → List Sector
sectors_at layout f p = cond (id_mark_at layout f p) (sector_at layout f p ∷ []) []

-- 6.4, 6.5, 6.26: the sectors of a track of n cells. Every place from 0 to n - 1 is tried, so they stand in the order of their places
unfoldable pub sectors_of : Layout → List ℕ → ℕ → List Sector
sectors_of layout bytes n = joined (sectors_at layout (cell bytes n)) n

-- 9.23: sectors as the struct keeps them: how many they are, and 64 records, with records of zeros after the last sector
unfoldable pub kept : List Sector → Sectors
kept sectors = record { all = take 64 (sectors ++ replicate 64 no_sector); count = length sectors }

-- 6.13, 6.24: the data bytes of a sector, L of them, after its data mark, which has `mark_length` cells
unfoldable pub data_bytes : (mark_length : ℕ) → (ℕ → ℕ) → Sector → List ℕ
data_bytes mark_length f s = bytes_from f (s.data_place + mark_length) s.data_length
