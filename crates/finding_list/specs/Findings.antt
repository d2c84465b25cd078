-- Section 7 of the specification, rules 7.31 to 7.33: the findings of a track as a list. A kind is given here by its index, which is one
-- less than its number. The main property: `findings_of` has each finding of the table's rows once, by kind and then by place. Assumes
-- nothing.
use Rattle.std.specs.Prelude.{ℕ, ◌+◌, cond, ◌&&◌, List, [], ◌∷◌, ltb, leb, length, get_or}
use Rattle.basis.specs.Lists.{joined}
use Rattle.cells.specs.CellsAndBytes.{cell}
use Rattle.finding_rules.specs.Rules.{no_row, rows}
use Rattle.finding_rules.specs.declared.Row.{Row}
use Rattle.finding_list.specs.declared.Finding.{Finding}
use Rattle.layouts.specs.declared.Layout.{Layout}
use Rattle.levels.specs.Levels.{levels}
use Rattle.sector_records.specs.Sectors.{sectors_of}
use Rattle.sector_records.specs.declared.Sector.{Sector}

-- 7.31: how many kinds a track's findings have
abbrev pub kinds : ℕ
kinds = 21

-- 7.32: how often a kind is judged: kinds 6 to 19 once for each sector, the others once for the track
unfoldable pub looks : List Sector → (k : ℕ) → ℕ
looks ss k = cond (leb 5 k && ltb k 19) (length ss) 1

-- row k of the table at look i, on a track of N cells f with the sectors ss
unfoldable pub row_at : Layout → (ℕ → ℕ) → (N T : ℕ) → List Sector → (k i : ℕ) → Row
row_at layout f N T ss k i = get_or (rows layout f N T ss i) k no_row

-- 7.31, 7.33: what a row finds: where its rule holds a finding, with its kind's number and level, and else nothing
unfoldable pub found_by : (k : ℕ) → Row → List Finding
found_by k row = cond row.holds (record { kind = k + 1; level = get_or levels k 0; place = row.place; detail = row.detail } ∷ []) []

-- what a kind finds at look i
unfoldable pub found_at : Layout → (ℕ → ℕ) → (N T : ℕ) → List Sector → (k i : ℕ) → List Finding
found_at layout f N T ss k i = found_by k (row_at layout f N T ss k i)

-- 7.32: what a kind finds, look after look: sectors are looked at in the order of their places
unfoldable pub of_kind : Layout → (ℕ → ℕ) → (N T : ℕ) → List Sector → (k : ℕ) → List Finding
of_kind layout f N T ss k = joined (found_at layout f N T ss k) (looks ss k)

-- 7.32, 7.43: the findings of a track of N cells, kind after kind. The side H is not asked for
unfoldable pub findings_of : Layout → List ℕ → (N T : ℕ) → List Finding
findings_of layout bytes N T = joined (of_kind layout (cell bytes N) N T (sectors_of layout bytes N)) kinds
