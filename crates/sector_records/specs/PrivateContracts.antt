-- What only the contracts of private functions need: the cells that they are handed, a map of the marks, and where data is found. Assumes nothing.
use Rattle.std.specs.Prelude.{ℕ, ◌+◌, ◌/◌, ◌≤◌, ◌≡◌, Bool, cond, ◌&&◌, eqb, List, Option, Some, None}
use Rattle.std.proofs.Props.{props}
use Rattle.cells.specs.CellsAndBytes.{cell}
use Rattle.cells.specs.declared.Cells.{Cells}
use Rattle.cell_words.specs.Words.{Holds}
use Rattle.layouts.specs.declared.Layout.{Layout}
use Rattle.sector_records.specs.Marks.{mark_at, word_mark_at}
use Rattle.sector_records.specs.Sectors.{least_data, data_found}

-- the cells that a call is handed, counted on round the track
abbrev pub cells_on : Cells → ℕ → ℕ
cells_on cells = cell cells.bytes.now cells.count

-- a mark whose byte may be that of an ID or of data: its second data cell is a one
unfoldable pub likely_at : (ℕ → ℕ) → ℕ → Bool
likely_at f p = mark_at f p && eqb (f (p + 51)) 1

-- words that say of each place of a track of n cells, and of those past its end where data may begin, whether such a mark stands there; in single
-- density, whether an ID mark does
abbrev pub MarkMap : Layout → (ℕ → ℕ) → ℕ → List ℕ → Type 0
MarkMap layout f n marks =
    (n ≤ 131072) × ((layout.density ≡ 1 → ⊥) → Holds (likely_at f) marks (n / 64 + 63)) × (layout.density ≡ 1 → Holds (word_mark_at f 0xF57E) marks (n / 64 + 63))

-- that a map of the marks is one is a fact, with one proof at most, so a struct may hold it
pub marks-prop : (layout : Layout) (f : ℕ → ℕ) (n : ℕ) (marks : List ℕ) → IsProp (MarkMap layout f n marks)
unfolding Holds
marks-prop layout f n marks = Prim.hlevel props

-- the place of the data mark, where one is found
unfoldable pub data_place_of : Layout → (ℕ → ℕ) → ℕ → Option ℕ
data_place_of layout f p = cond (data_found layout f p) (Some (least_data layout f p)) None
