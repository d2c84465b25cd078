-- Section 1 of the specification, rule 1.20: the table by which bytes are coded. The main property: the code's
-- table is this one (`cell_table`). Assumes nothing.
use Rattle.std.specs.Prelude.{ℕ, ◌+◌, ◌*◌, ◌/◌, ◌%◌, List, get_or}
use Rattle.basis.specs.Lists.{listed}
use Rattle.mfm.specs.Coding.{byte_cells}

-- 1.20: entry i, where i is 256 times a data bit and a byte: the sixteen cells of the byte after that bit, by the clock rule
unfoldable pub cells_of_entry : ℕ → ℕ
cells_of_entry i = byte_cells (i / 256) (i % 256)

-- 1.20: the table, 512 entries. Coding by it gives for every list of bytes, and either bit before it, what the clock rule gives (`by-table`, in
-- proofs/ByTable)
unfoldable pub cell_table : List ℕ
cell_table = listed cells_of_entry 512

-- 1.20: what a table has for a byte after a data bit
abbrev pub entry_of : List ℕ → ℕ → ℕ → ℕ
entry_of table before byte = get_or table (before * 256 + byte) 0
