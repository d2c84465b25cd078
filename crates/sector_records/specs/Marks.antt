-- Section 6 of the specification: the marks on a track. f are the cells, which go on round the track. This is the one place where the two
-- densities are read by different rules.
--
--   cells from p       0         16        32        48          64
--   double density     4489      4489      4489      mark byte   what the mark announces
--   single density     mark      what the mark announces
--
-- Assumes nothing.
use Rattle.std.specs.Prelude.{ℕ, ◌+◌, Bool, cond, ◌&&◌, ◌||◌, eqb, leb}
use Rattle.cells.specs.CellsAndBytes.{word}
use Rattle.mfm.specs.Coding.{byte_on}
use Rattle.layouts.specs.declared.Layout.{Layout}

-- 1.18: the sync A1, with the cells 4489, stands at p. It may begin at any cell
abbrev pub sync_at : (ℕ → ℕ) → ℕ → Bool
sync_at f p = eqb (word f 16 p) 0x4489

-- 6.1: a mark stands at p: three syncs, 16 cells from one to the next. That of a sector is from 0 to N - 1 (`sectors_of`), that of its data
-- may be N or more
unfoldable pub mark_at : (ℕ → ℕ) → ℕ → Bool
mark_at f p = sync_at f p && (sync_at f (p + 16) && sync_at f (p + 32))

-- 6.2: the byte of such a mark, which begins 48 cells on
abbrev pub mark_byte : (ℕ → ℕ) → ℕ → ℕ
mark_byte f p = byte_on f (p + 48)

-- 6.3: a mark whose byte lies from `low` to `high`
unfoldable pub mark_of : (ℕ → ℕ) → ℕ → ℕ → ℕ → Bool
mark_of f low high p = mark_at f p && (leb low (mark_byte f p) && leb (mark_byte f p) high)

-- 6.22: a mark of single density stands at p: a word of 16 cells. It may begin at any cell
unfoldable pub word_mark_at : (ℕ → ℕ) → ℕ → ℕ → Bool
word_mark_at f w p = eqb (word f 16 p) w

-- 6.3, 6.4: in double density an ID mark has a byte from FC to FF, and a data mark one from F8 to FB. A1 lies in neither range: where a fourth
-- sync follows, the mark begins at the second. 6.22: in single density F57E is an ID mark, and F56F and F56A are data marks
unfoldable pub id_mark_at : Layout → (ℕ → ℕ) → ℕ → Bool
id_mark_at layout f p = cond (eqb layout.density 1) (word_mark_at f 0xF57E p) (mark_of f 0xFC 0xFF p)

unfoldable pub data_mark_at : Layout → (ℕ → ℕ) → ℕ → Bool
data_mark_at layout f p = cond (eqb layout.density 1) (word_mark_at f 0xF56F p || word_mark_at f 0xF56A p) (mark_of f 0xF8 0xFB p)
