-- What only the contracts of private functions need: coding by a table that is lent. With `cell_table` for the table it is what the clock rule gives
-- (`by-table`, in proofs/ByTable). Assumes nothing.
use Rattle.std.specs.Prelude.{ℕ, ◌/◌, ◌%◌, List, [], ◌∷◌}
use Rattle.mfm.specs.Table.{entry_of}

-- bytes coded by a table, entry by entry: two bytes of cells for each, the high one first. Its lowest bit is the bit before the next byte
unfoldable pub coded_by : List ℕ → ℕ → List ℕ → List ℕ
coded_by table before [] = []
coded_by table before (byte ∷ bytes) = entry_of table before byte / 256 ∷ entry_of table before byte % 256 ∷ coded_by table (byte % 2) bytes
