-- What the contracts of private functions need: what they ask of sectors and rows, and findings added to a list of numbers. Assumes
-- nothing.
use Rattle.std.specs.Prelude.{ℕ, ◌+◌, ◌*◌, ◌/◌, ◌≤◌, ◌<◌, ◌≡◌, true, false, List, ◌++◌, length, get_or, take, drop, replicate}
use Rattle.basis.specs.Lists.{joined}
use Rattle.cells.specs.CellsAndBytes.{cell}
use Rattle.cell_words.specs.Words.{mask}
use Rattle.layouts.specs.declared.Layout.{Layout}
use Rattle.sector_records.specs.Marks.{word_mark_at}
use Rattle.sector_records.specs.Sectors.{has_data}
use Rattle.finding_rules.specs.Rules.{nth, some_sector, starts_in_data}
use Rattle.finding_rules.specs.declared.Row.{Row}
use Rattle.finding_list.specs.Calls.{numbers_of, most_findings}
use Rattle.finding_list.specs.Findings.{found_at, of_kind}
use Rattle.finding_list.specs.declared.Finding.{Finding}
use Rattle.sector_records.specs.declared.Sector.{Sector}

-- the bounds of a record's numbers
pub record BoundedSector (s : Sector) : Type 0 where
  pub place : s.place ≤ 131072
  pub mark : s.mark ≤ 255
  pub track : s.track ≤ 255
  pub side : s.side ≤ 255
  pub number : s.number ≤ 255
  pub size_code : s.size_code ≤ 255
  pub data_place : s.data_place ≤ 200000
  pub data_mark : s.data_mark ≤ 255
  pub data_end : s.data_end ≤ 150000

-- a sector that goes round a track of n cells once at most
pub record Within (n : ℕ) (s : Sector) : Type 0 where
  pub id_inside : s.place + 160 ≤ n + n
  pub data_inside : s.data_end ≤ n + n

-- a sector, and its data where it has some, lie before a place, and the data is not before the ID
pub record Clear (s : Sector) (free : ℕ) : Type 0 where
  pub before : s.place < free
  pub behind : has_data s ≡ true → (s.place ≤ s.data_place) × (s.data_end ≤ free)

-- what the routines over a track's sectors ask: at most 64, each with its bounds, on a track of 20,000 to 131,072 cells
pub record BoundedTrack (n : ℕ) (ss : List Sector) : Type 0 where
  pub few : length ss ≤ 64
  pub near : (i : ℕ) → BoundedSector (nth ss i)
  pub within : (i : ℕ) → Within n (nth ss i)
  pub long : 20000 ≤ n
  pub short : n ≤ 131072

-- no sector starts in the data of another
abbrev pub AllApart : ℕ → List Sector → Type 0
AllApart n ss = (i : ℕ) → i < length ss → some_sector (starts_in_data n (nth ss i)) ss ≡ false

-- words that say of each place of a track, and of those past its end, whether a sync stands there: `Holds`, written out, as a ghost field asks
abbrev pub SyncMap : Layout → List ℕ → ℕ → List ℕ → Type 0
SyncMap layout bytes n syncs = (w : ℕ) → w < n / 64 + 64 → get_or syncs w 0 ≡ mask (word_mark_at (cell bytes n) layout.sync) 64 (64 * w)

-- a row whose place and detail are numbers of 32 bits
pub record Narrow (row : Row) : Type 0 where
  pub place : row.place ≤ 0xFFFFFFFF
  pub detail : row.detail ≤ 0xFFFFFFFF

-- a list of numbers with `at` findings at its front has room for the findings xs after them
pub record Room (numbers : List ℕ) (at : ℕ) (xs : List Finding) : Type 0 where
  pub long : length numbers ≡ 4 * most_findings
  pub fits : at + length xs ≤ most_findings

-- the same list with the findings xs put there: `next` findings in all
pub record Added (before : List ℕ) (at : ℕ) (xs : List Finding) (after : List ℕ) (next : ℕ) : Type 0 where
  pub long : length after ≡ 4 * most_findings
  pub count : next ≡ at + length xs
  pub front : take (4 * next) after ≡ take (4 * at) before ++ numbers_of xs
  pub rest : drop (4 * next) after ≡ drop (4 * next) before

-- a list of numbers, zeros at first, with the findings of the kinds before k: `at` findings in all
abbrev pub Listed : Layout → List ℕ → (N T : ℕ) → List Sector → (k : ℕ) → List ℕ → (at : ℕ) → Type 0
Listed layout bytes N T ss k numbers at = Added (replicate 3604 0) 0 (joined (of_kind layout (cell bytes N) N T ss) k) numbers at

-- the same, and with those of kind k at the sectors before i
abbrev pub Looked : Layout → List ℕ → (N T : ℕ) → List Sector → (k i : ℕ) → List ℕ → (at : ℕ) → Type 0
Looked layout bytes N T ss k i numbers at =
    Added (replicate 3604 0) 0 (joined (of_kind layout (cell bytes N) N T ss) k ++ joined (found_at layout (cell bytes N) N T ss k) i) numbers at
