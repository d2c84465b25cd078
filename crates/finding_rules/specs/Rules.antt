-- Section 7 of the specification: the table of the 21 kinds, one record for each row: whether its rule holds, and the place and the detail
-- of its finding. N is the number of cells, T the drive's track; s is the record of a sector, p its place, q that of its data mark. The layout
-- says what is usual in the track's density. The main property: `rows` has them all, in the table's order. Assumes nothing.
use Rattle.std.specs.Prelude.{ℕ, ◌+◌, ◌-◌, Bool, false, not, ◌&&◌, ◌||◌, List, [], ◌∷◌, ◌++◌, eqb, ltb, leb, length, get_or, take}
use Rattle.cell_patterns.specs.Cells.{gaps_of, syncs_inside}
use Rattle.cell_patterns.specs.declared.Gaps.{Gaps}
use Rattle.finding_rules.specs.declared.Row.{Row}
use Rattle.layouts.specs.declared.Layout.{Layout}
use Rattle.sector_records.specs.Sectors.{has_data, no_sector}
use Rattle.sector_records.specs.declared.Sector.{Sector}

-- some sector of a list passes the test
unfoldable pub some_sector : (Sector → Bool) → List Sector → Bool
some_sector test [] = false
some_sector test (s ∷ ss) = test s || some_sector test ss

-- 7.1, 7.44: LGT, long track: N is above 103,000, in single density above 51,500. At 0, with N
abbrev pub lgt : Layout → (N : ℕ) → Row
lgt layout N = record { holds = ltb layout.most_cells N; place = 0; detail = N }

-- 7.2, 7.44: SHT, short track: N is below 97,000, in single density below 48,500. At 0, with N
abbrev pub sht : Layout → (N : ℕ) → Row
sht layout N = record { holds = ltb N layout.fewest_cells; place = 0; detail = N }

-- 7.3, 7.44: NOS, number of sectors: below 9, or above 10; in single density other than 18. At 0, with their number
abbrev pub nos : Layout → (sectors : ℕ) → Row
nos layout sectors =
    record { holds = ltb sectors layout.fewest_sectors || ltb layout.most_sectors sectors; place = 0; detail = sectors }

-- 7.4: TNF, track not found: no sectors, and T is at most 79. At 0, with 0
abbrev pub tnf : (sectors T : ℕ) → Row
tnf sectors T = record { holds = eqb sectors 0 && leb T 79; place = 0; detail = 0 }

-- 7.5: EXT, extra track: a sector or more, and T is at least 80. At 0, with the number of sectors
abbrev pub ext : (sectors T : ℕ) → Row
ext sectors T = record { holds = ltb 0 sectors && leb 80 T; place = 0; detail = sectors }

-- 7.36: two sectors have the same number; nothing else of them is compared
unfoldable pub same_number : Sector → Sector → Bool
same_number s other = eqb other.number s.number

-- 7.6, 7.36: DSN, duplicate sector number: some sector before this one has the same. At p, with the number. It is asked once, so there is
-- one DSN at most
abbrev pub dsn : (earlier : List Sector) → Sector → Row
dsn earlier s = record { holds = some_sector (same_number s) earlier; place = s.place; detail = s.number }

-- 7.7: ISN, invalid sector number: from 245 to 247. At p, with the number
abbrev pub isn : Sector → Row
isn s = record { holds = leb 245 s.number && leb s.number 247; place = s.place; detail = s.number }

-- 7.8: ITN, invalid track number: the ID's track is not T. At p, with the ID's
abbrev pub itn : (T : ℕ) → Sector → Row
itn T s = record { holds = not (eqb s.track T); place = s.place; detail = s.track }

-- 7.9: IIF, invalid ID field: the track is above 83, the side above 1, or the size code above 3. At p, with the side
abbrev pub iif : Sector → Row
iif s = record { holds = ltb 83 s.track || (ltb 1 s.side || ltb 3 s.size_code); place = s.place; detail = s.side }

-- 7.10, 7.44: SSZ, sector size: the size code is neither 2 nor 3, in single density not 0. At p, with the code
abbrev pub ssz : Layout → Sector → Row
ssz layout s =
    record {
      holds = not (eqb s.size_code layout.size_code) && not (eqb s.size_code layout.other_size_code);
      place = s.place;
      detail = s.size_code;
    }

-- 7.11, 7.47: NSI, non-standard ID mark: not FE, so FC, FD or FF, which single density has not. At p, with the mark byte
abbrev pub nsi : Sector → Row
nsi s = record { holds = not (eqb s.mark 0xFE); place = s.place; detail = s.mark }

-- 7.12, 7.47: NSD, non-standard data mark: the sector has data, and its mark is neither F8 nor FB, so F9 or FA, which single density has
-- not. At p, with the mark byte
abbrev pub nsd : Sector → Row
nsd s =
    record {
      holds = has_data s && (not (eqb s.data_mark 0xF8) && not (eqb s.data_mark 0xFB));
      place = s.place;
      detail = s.data_mark;
    }

-- 7.13: SBI, sector with bad ID: its ID check is bad. At p, with the number
abbrev pub sbi : Sector → Row
sbi s = record { holds = not s.id_check_good; place = s.place; detail = s.number }

-- 7.14: SND, sector with no data: the ID check is good, but there is no data. At p, with the number
abbrev pub snd : Sector → Row
snd s = record { holds = s.id_check_good && not (has_data s); place = s.place; detail = s.number }

-- 7.15: SBD, sector with bad data: there is data, and its check is bad. At p, with the number
abbrev pub sbd : Sector → Row
sbd s = record { holds = has_data s && not s.data_check_good; place = s.place; detail = s.number }

-- 7.16: DOI, data over the index: there is data, q is below N, and the data end above N. At p, with the cells from N to the data end
abbrev pub doi : (N : ℕ) → Sector → Row
doi N s = record { holds = has_data s && (ltb s.data_place N && ltb N s.data_end); place = s.place; detail = s.data_end - N }

-- 7.17: DBI, data beyond the index: there is data, and q is N or more. At p, with the cells from N to q
abbrev pub dbi : (N : ℕ) → Sector → Row
dbi N s = record { holds = has_data s && leb N s.data_place; place = s.place; detail = s.data_place - N }

-- 7.37: place x is at least the other sector's q, and below its data end
abbrev pub is_in_data : ℕ → Sector → Bool
is_in_data x other = leb other.data_place x && ltb x other.data_end

-- 7.37: the other sector has another place and has data, and p or p + N falls into it
unfoldable pub starts_in_data : ℕ → Sector → Sector → Bool
starts_in_data N s other = (not (eqb other.place s.place) && has_data other) && (is_in_data s.place other || is_in_data (s.place + N) other)

-- 7.18: SWS, sector within a sector: p falls into the data of some other sector. At p, with the number
abbrev pub sws : (N : ℕ) → List Sector → Sector → Row
sws N sectors s = record { holds = some_sector (starts_in_data N s) sectors; place = s.place; detail = s.number }

-- 7.19, 7.45: SID, sync in ID or data: there is one or more (`syncs_inside`). At p, with how many
abbrev pub sid : (syncs : ℕ) → Sector → Row
sid syncs s = record { holds = ltb 0 syncs; place = s.place; detail = syncs }

-- 7.20, 7.46: MTV, MFM timing violation: a one has its next one too near or too far (`violation`). At the least such place, with how many there
-- are
abbrev pub mtv : Gaps → Row
mtv gaps = record { holds = ltb 0 gaps.violations; place = gaps.first; detail = gaps.violations }

-- 7.21: NFA, no flux area: the longest run of zeros (`longest_run`) has 1,000 cells or more. Where it starts, with its length
abbrev pub nfa : Gaps → Row
nfa gaps = record { holds = leb 1000 gaps.longest; place = gaps.start; detail = gaps.longest }

-- a row that finds nothing, for numbers that are no kind
abbrev pub no_row : Row
no_row = record { holds = false; place = 0; detail = 0 }

-- kinds 1 to 5, on the numbers of a track
unfoldable pub track_rows : Layout → (N sectors T : ℕ) → List Row
track_rows layout N sectors T = lgt layout N ∷ sht layout N ∷ nos layout sectors ∷ tnf sectors T ∷ ext sectors T ∷ []

-- kinds 7 to 12, on a sector's ID and its marks
unfoldable pub id_rows : Layout → (T : ℕ) → Sector → List Row
id_rows layout T s = isn s ∷ itn T s ∷ iif s ∷ ssz layout s ∷ nsi s ∷ nsd s ∷ []

-- kinds 13 to 17, on a sector's checks and its data
unfoldable pub data_rows : (N : ℕ) → Sector → List Row
data_rows N s = sbi s ∷ snd s ∷ sbd s ∷ doi N s ∷ dbi N s ∷ []

-- kinds 7 to 19, on one sector of a track with the sectors ss
unfoldable pub sector_rows : Layout → (ℕ → ℕ) → (N T : ℕ) → List Sector → Sector → List Row
sector_rows layout f N T ss s = id_rows layout T s ++ (data_rows N s ++ (sws N ss s ∷ sid (syncs_inside layout f s) s ∷ []))

-- kinds 20 and 21, on what was counted on the cells
unfoldable pub gap_rows : Gaps → List Row
gap_rows gaps = mtv gaps ∷ nfa gaps ∷ []

-- sector i of a list
abbrev pub nth : List Sector → ℕ → Sector
nth ss i = get_or ss i no_sector

-- the whole table, from kind 1 on, on a track of N cells f with the sectors ss: its rows on sectors are on sector i
unfoldable pub rows : Layout → (ℕ → ℕ) → (N T : ℕ) → List Sector → ℕ → List Row
rows layout f N T ss i =
    track_rows layout N (length ss) T
    ++ (dsn (take i ss) (nth ss i) ∷ (sector_rows layout f N T ss (nth ss i) ++ gap_rows (gaps_of layout f N)))
