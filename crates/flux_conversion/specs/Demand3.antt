-- Section 18 of the specification, rule 18.13: demand 3 (section 4) of the conversion, for all flux transitions within the tolerance, as the
-- separator's call on the timings has it. Assumes nothing.
use Rattle.std.specs.Prelude.{ℕ, ◌≤◌, ◌≡◌, false, List, ℤ, length}
use Rattle.basis.specs.Lists.{written_over}
use Rattle.cells.specs.CellsAndBytes.{bytes_for}
use Rattle.refusals.specs.RefusedCalls.{Answer}
use Rattle.refusals.specs.RefusedCalls.Answer.{gives}
use Rattle.separation.specs.Demand3.{Reversal, Tolerable, taken, cells_in_all, refusal_table, Demand3}
use Rattle.track_file.specs.TrackFile.{track_of, side_of, cell_count, packed_bytes}
use Rattle.flux_file.specs.FluxFile.{flux_count, timings, refused_at_once, not_a_flux_file, some_cells, placed}
use Rattle.flux_conversion.specs.Conversion.{in_room}

-- 18.13: demand 3 of a conversion of this file that answers `answer` and takes a buffer from `before` to `after`. Where it is accepted, the number
-- of cells and the packed cells that stand in the new file are what a call of the separator on the timings gives, with any buffer that has the
-- room: demand 3 holds of them. And where the file is whole and its timings are within the tolerance, it is refused with 9, 2 or 10 alone, each by
-- the number of cells that were written
pub record ConversionDemand3 (file : List ℕ) (answer : Answer ℕ) (before after : List ℕ) : Type 0 where
  pub recovers : (count : ℕ) → answer ≡ gives count → (buffer : List ℕ) → bytes_for (cell_count after) ≤ length buffer
      → Demand3 (timings file) (gives (cell_count after)) buffer (written_over (packed_bytes after) buffer)
  pub refusals : refused_at_once file ≡ false → not_a_flux_file file ≡ false
      → (D J : ℕ) → taken D J ≤ 998 → (p q : ℤ) (vs : List Reversal) → Tolerable D J p q vs (timings file)
      → answer ≡ in_room (length before) (placed (track_of file) (side_of file) (some_cells (refusal_table (flux_count file) (cells_in_all vs) 16384)))
