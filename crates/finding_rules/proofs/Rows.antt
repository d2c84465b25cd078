-- The table of findings, part by part, as the code takes it. A kind is given by its index, from 0. Assumes nothing.
use Prim.Native.Nat.{ℕ, ◌+◌, ◌-◌, ◌<◌, ◌≤◌}
use mathlib.Core.Path.{◌≡◌, refl, ◌∙◌}
use mathlib.Core.List.{List, [], ◌∷◌, ◌++◌}
use native.Mathlib.Omega.{arith}
use lib.ListN.{length, get_or, take, get_or-append}
use lib.Seq.{get_or-append-add}
use Rattle.cell_patterns.specs.Cells.{gaps_of, syncs_inside}
use Rattle.finding_rules.specs.Rules.{no_row, nth, dsn, sws, sid, track_rows, id_rows, data_rows, sector_rows, gap_rows, rows}
use Rattle.finding_rules.specs.declared.Row.{Row}
use Rattle.layouts.specs.declared.Layout.{Layout}
use Rattle.sector_records.specs.declared.Sector.{Sector}

-- a row of two groups, one after the other
before : (first second : List Row) (k : ℕ) → k < length first → get_or (first ++ second) k no_row ≡ get_or first k no_row
before first second k h = get_or-append first second no_row k h

behind : (first second : List Row) (j k : ℕ) → k ≡ length first + j → get_or (first ++ second) k no_row ≡ get_or second j no_row
behind first second j k e = rw e (get_or-append-add first second j no_row)

-- kinds 7 to 19 on one sector, k from 0
module _ (layout : Layout) (f : ℕ → ℕ) (N T : ℕ) (ss : List Sector) (s : Sector) (k : ℕ) where
  abbrev last : List Row
  last = sws N ss s ∷ sid (syncs_inside layout f s) s ∷ []

  pub row-id : k < 6 → get_or (sector_rows layout f N T ss s) k no_row ≡ get_or (id_rows layout T s) k no_row
  unfolding sector_rows id_rows
  row-id h = before (id_rows layout T s) (data_rows N s ++ last) k h

  pub row-data : 6 ≤ k → k < 11 → get_or (sector_rows layout f N T ss s) k no_row ≡ get_or (data_rows N s) (k - 6) no_row
  unfolding sector_rows id_rows data_rows
  row-data h l = behind (id_rows layout T s) (data_rows N s ++ last) (k - 6) k (omega arith) ∙ before (data_rows N s) last (k - 6) (omega arith)

  row_last : 11 ≤ k → get_or (sector_rows layout f N T ss s) k no_row ≡ get_or last (k - 11) no_row
  unfolding sector_rows id_rows data_rows
  row_last h = behind (id_rows layout T s) (data_rows N s ++ last) (k - 6) k (omega arith) ∙ behind (data_rows N s) last (k - 11) (k - 6) (omega arith)

  pub row-sws : k ≡ 11 → get_or (sector_rows layout f N T ss s) k no_row ≡ sws N ss s
  row-sws h = let e : k - 11 ≡ 0 = omega arith in rw (row_last (omega arith), e)

  pub row-sid : k ≡ 12 → get_or (sector_rows layout f N T ss s) k no_row ≡ sid (syncs_inside layout f s) s
  row-sid h = let e : k - 11 ≡ 1 = omega arith in rw (row_last (omega arith), e)

-- all kinds
module _ (layout : Layout) (f : ℕ → ℕ) (N T : ℕ) (ss : List Sector) (i k : ℕ) where
  abbrev on-sector : List Row
  on-sector = sector_rows layout f N T ss (nth ss i)

  abbrev rest : List Row
  rest = dsn (take i ss) (nth ss i) ∷ (on-sector ++ gap_rows (gaps_of layout f N))

  pub length-on-sector : length on-sector ≡ 13
  unfolding sector_rows id_rows data_rows
  length-on-sector = refl

  pub row-track : k < 5 → get_or (rows layout f N T ss i) k no_row ≡ get_or (track_rows layout N (length ss) T) k no_row
  unfolding rows track_rows
  row-track h = before (track_rows layout N (length ss) T) rest k h

  pub row-dsn : k ≡ 5 → get_or (rows layout f N T ss i) k no_row ≡ dsn (take i ss) (nth ss i)
  unfolding rows track_rows
  row-dsn h = behind (track_rows layout N (length ss) T) rest 0 k (omega arith)

  behind-dsn : 6 ≤ k → get_or (rows layout f N T ss i) k no_row ≡ get_or (on-sector ++ gap_rows (gaps_of layout f N)) (k - 6) no_row
  unfolding rows track_rows
  behind-dsn h =
      behind (track_rows layout N (length ss) T) rest (k - 5) k (omega arith)
      ∙ behind (dsn (take i ss) (nth ss i) ∷ []) (on-sector ++ gap_rows (gaps_of layout f N)) (k - 6) (k - 5) (omega arith)

  pub row-sector : 6 ≤ k → k < 19 → get_or (rows layout f N T ss i) k no_row ≡ get_or (sector_rows layout f N T ss (nth ss i)) (k - 6) no_row
  row-sector h l = behind-dsn h ∙ before on-sector (gap_rows (gaps_of layout f N)) (k - 6) (omega (arith, length-on-sector))

  pub row-gaps : 19 ≤ k → get_or (rows layout f N T ss i) k no_row ≡ get_or (gap_rows (gaps_of layout f N)) (k - 19) no_row
  row-gaps h = behind-dsn (omega arith) ∙ behind on-sector (gap_rows (gaps_of layout f N)) (k - 19) (k - 6) (omega (arith, length-on-sector))
