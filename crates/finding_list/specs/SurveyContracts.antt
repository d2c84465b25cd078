-- What the contracts of the methods of `Surveyed` say often. Assumes nothing.
use Rattle.std.specs.Prelude.{ℕ, List, get_or}
use Rattle.cells.specs.CellsAndBytes.{cell}
use Rattle.finding_rules.specs.Rules.{no_row, sector_rows}
use Rattle.finding_rules.specs.declared.Row.{Row}
use Rattle.finding_list.specs.PrivateContracts.{Listed, Looked}
use Rattle.finding_list.specs.declared.facts.Surveyed.{Surveyed}
use Rattle.layouts.specs.Layouts.{layout_of}
use Rattle.sector_records.specs.declared.Sector.{Sector}

-- a list of numbers with the findings of the kinds before k: `at` findings in all
abbrev pub ListedBefore : Surveyed → (k : ℕ) → List ℕ → (at : ℕ) → Type 0
ListedBefore survey k numbers at =
    Listed (layout_of survey.density) survey.track.cells.bytes.now survey.track.cells.count survey.track.track survey.sectors.now k numbers at

-- the same, and with those of kind k at the sectors before i
abbrev pub LookedBefore : Surveyed → (k i : ℕ) → List ℕ → (at : ℕ) → Type 0
LookedBefore survey k i numbers at =
    Looked (layout_of survey.density) survey.track.cells.bytes.now survey.track.cells.count survey.track.track survey.sectors.now k i numbers at

-- row k of the table on the sector s
abbrev pub sector_row : Surveyed → Sector → (k : ℕ) → Row
sector_row survey s k =
    get_or (sector_rows (layout_of survey.density) (cell survey.track.cells.bytes.now survey.track.cells.count) survey.track.cells.count survey.track.track survey.sectors.now s) k no_row
