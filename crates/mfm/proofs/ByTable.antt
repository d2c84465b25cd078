-- Coding by the table gives what the clock rule gives, for every list of bytes and either bit before it. Assumes nothing.
use Prim.Native.Nat.{ℕ, suc, ◌+◌, ◌*◌, ◌/◌, ◌%◌, ◌<◌}
use mathlib.Core.Path.{◌≡◌, refl, sym, ◌∙◌}
use mathlib.Core.List.{List, [], ◌∷◌}
use native.Mathlib.Omega.{arith}
use lib.ListN.{get_or}
use Rattle.basis.specs.Lists.{listed}
use Rattle.basis.proofs.Tables.{entry-of}
use Rattle.mfm.specs.Coding.{byte_cells, encoded}
use Rattle.mfm.specs.PrivateContracts.{coded_by}
use Rattle.mfm.specs.Table.{cells_of_entry, cell_table, entry_of}
use Rattle.mfm.proofs.Coder.{encoded-none, encoded-more, coded-by-none, coded-by-more}

listed-by-rule : cell_table ≡ listed cells_of_entry 512
unfolding cell_table
listed-by-rule = refl

-- an entry is the cells of its byte after its bit
pub entry-is : (before byte : ℕ) → before < 2 → byte < 256 → entry_of cell_table before byte ≡ byte_cells before byte
unfolding cells_of_entry
entry-is before byte h l =
    let d : (before * 256 + byte) / 256 ≡ before = omega arith in
    let m : (before * 256 + byte) % 256 ≡ byte = omega arith in
    entry-of cell_table cells_of_entry 512 listed-by-rule (before * 256 + byte) (omega arith) ∙ rw (d, m)

-- 1.20: so the coder by a table and the coder by the clock rule agree on every list of bytes
pub by-table : (before : ℕ) (bytes : List ℕ) → before < 2 → ((i : ℕ) → get_or bytes i 0 < 256) → coded_by cell_table before bytes ≡ encoded before bytes
by-table before [] h small = coded-by-none cell_table before ∙ sym (encoded-none before)
by-table before (byte ∷ bytes) h small =
    rw (coded-by-more cell_table before byte bytes, encoded-more before byte bytes, entry-is before byte h (small 0), by-table (byte % 2) bytes (omega arith) (λ i. small (suc i)))
