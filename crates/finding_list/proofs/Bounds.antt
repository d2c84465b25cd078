-- What is found fits its numbers: the bounds of a sector's record, of the sectors that a struct keeps, and of each row. Assumes nothing.
use Prim.Native.Nat.{ℕ, zero, suc, ◌+◌, ◌*◌, ◌<◌, ◌≤◌}
use mathlib.Core.Path.{◌≡◌, refl}
use mathlib.Core.Bool.{Bool, true, false, cond}
use mathlib.Core.List.{List, [], ◌∷◌, ◌++◌}
use native.Mathlib.Decide.{dec_le}
use native.Mathlib.Nat.{lt_of_not-le}
use native.Mathlib.Omega.{arith}
use borrow.Author.Tests.{leb-true}
use lib.ListN.{length, get_or, take, replicate, get_or-eq_default}
use lib.Seq.{take-take, take_at}
use Rattle.cells.specs.CellsAndBytes.{cell}
use Rattle.cells.proofs.Places.{cell-lt}
use Rattle.cells.proofs.Words.{word_lt}
use Rattle.cell_patterns.specs.Cells.{gaps_of}
use Rattle.cell_patterns.proofs.Bounds.{gaps-few, inside-few}
use Rattle.finding_rules.specs.Rules.{no_row, nth, track_rows, id_rows, data_rows, sector_rows, gap_rows, rows}
use Rattle.finding_rules.specs.declared.Row.{Row}
use Rattle.basis.specs.Lists.{joined}
use Rattle.finding_list.specs.Findings.{row_at, kinds, of_kind}
use Rattle.finding_list.proofs.MostFindings.{few_findings}
use Rattle.finding_list.specs.PrivateContracts.{BoundedSector, BoundedTrack, Within, Narrow}
use Rattle.mfm.specs.Coding.{byte_on, data_cell}
use Rattle.layouts.specs.Layouts.{layout_of}
use Rattle.layouts.specs.declared.Density.{Density}
use Rattle.layouts.specs.declared.Layout.{Layout}
use Rattle.layouts.proofs.Soundness.{sound}
use Rattle.layouts.specs.PrivateContracts.{Sound}
use Rattle.sector_records.specs.Sectors.{mark_byte_at, least_data, data_found, length_of, id_byte, data_length, end_of_data, sector_at, no_sector, sectors_of, kept}
use Rattle.sector_records.specs.declared.Sector.{Sector}
use Rattle.sector_records.specs.declared.Sectors.{Sectors}
use Rattle.sector_records.proofs.Places.{length_most, sector-of-mark}

-- a record's numbers
byte-few : (f : ℕ → ℕ) → ((i : ℕ) → f i < 2) → (p : ℕ) → byte_on f p ≤ 255
unfolding byte_on
byte-few f bit p = omega (arith, word_lt (data_cell f p) (λ i. bit (p + (2 * i + 1))) 8 0)

near-record : (layout : Layout) → Sound layout → (f : ℕ → ℕ) → ((i : ℕ) → f i < 2) → (p : ℕ) → p ≤ 131072 → BoundedSector (sector_at layout f p)
unfolding sector_at data_length
near-record layout sound f bit p h =
    record {
      place = h;
      mark = byte-few f bit (p + layout.byte_place);
      track = byte-few f bit _;
      side = byte-few f bit _;
      number = byte-few f bit _;
      size_code = byte-few f bit _;
      data_place = place (data_found layout f p) refl;
      data_mark = mark (data_found layout f p);
      data_end = end (data_found layout f p) refl;
    }
  where
    place : (b : Bool) → data_found layout f p ≡ b → cond b (least_data layout f p) 0 ≤ 200000
    place true e = omega (arith, sound.near, leb-true (least_data layout f p) (p + layout.reach) e)
    place false e = omega arith

    mark : (b : Bool) → cond b (mark_byte_at layout f (least_data layout f p)) 0 ≤ 255
    mark true = byte-few f bit (least_data layout f p + layout.byte_place)
    mark false = omega arith

    end : (b : Bool) → data_found layout f p ≡ b → cond b (end_of_data layout.mark_length (least_data layout f p) (cond b (length_of (id_byte layout.mark_length f p 3)) 0)) 0 ≤ 150000
    end true e = omega (arith, sound.near, sound.mark, leb-true (least_data layout f p) (p + layout.reach) e, length_most (id_byte layout.mark_length f p 3))
    end false e = omega arith

no_record : BoundedSector no_sector
no_record =
    record {
      place = omega arith;
      mark = omega arith;
      track = omega arith;
      side = omega arith;
      number = omega arith;
      size_code = omega arith;
      data_place = omega arith;
      data_mark = omega arith;
      data_end = omega arith;
    }

near-sector : (layout : Layout) → Sound layout → (bytes : List ℕ) (n i : ℕ) → n ≤ 131072 → BoundedSector (nth (sectors_of layout bytes n) i)
near-sector layout sound bytes n i short = go (dec_le (length (sectors_of layout bytes n)) i)
  where
    go : Dec (length (sectors_of layout bytes n) ≤ i) → BoundedSector (nth (sectors_of layout bytes n) i)
    go (yes h) = rw (get_or-eq_default (sectors_of layout bytes n) no_sector h) no_record
    go (no h) =
        let s = sector-of-mark layout bytes n i (lt_of_not-le h) in
        rw s.made (near-record layout sound (cell bytes n) (cell-lt bytes n) _ (omega (arith, s.below)))

within-record : (layout : Layout) → Sound layout → (f : ℕ → ℕ) (n p : ℕ) → 20000 ≤ n → p ≤ n → Within n (sector_at layout f p)
unfolding sector_at data_length
within-record layout sound f n p h l = record { id_inside = omega arith; data_inside = end (data_found layout f p) refl }
  where
    end : (b : Bool) → data_found layout f p ≡ b → cond b (end_of_data layout.mark_length (least_data layout f p) (cond b (length_of (id_byte layout.mark_length f p 3)) 0)) 0 ≤ n + n
    end true e = omega (arith, sound.near, sound.mark, leb-true (least_data layout f p) (p + layout.reach) e, length_most (id_byte layout.mark_length f p 3))
    end false e = omega arith

within-sector : (layout : Layout) → Sound layout → (bytes : List ℕ) (n i : ℕ) → 20000 ≤ n → Within n (nth (sectors_of layout bytes n) i)
within-sector layout sound bytes n i long = go (dec_le (length (sectors_of layout bytes n)) i)
  where
    go : Dec (length (sectors_of layout bytes n) ≤ i) → Within n (nth (sectors_of layout bytes n) i)
    go (yes h) = rw (get_or-eq_default (sectors_of layout bytes n) no_sector h) record { id_inside = omega arith; data_inside = omega arith }
    go (no h) =
        let s = sector-of-mark layout bytes n i (lt_of_not-le h) in
        rw s.made (within-record layout sound (cell bytes n) n _ long (omega (arith, s.below)))

-- the sectors of a track, as the struct keeps them
pub sectors-kept : (layout : Layout) (bytes : List ℕ) (n : ℕ) (ss : Sectors) → ss ≡ kept (sectors_of layout bytes n) → length (sectors_of layout bytes n) ≤ 64
    → take ss.count ss.all ≡ sectors_of layout bytes n
unfolding kept
sectors-kept layout bytes n ss are few =
    let xs = sectors_of layout bytes n in
    rw (are, take-take (length xs) 64 (xs ++ replicate 64 no_sector) few) (take_at xs (replicate 64 no_sector) (length xs) refl)

pub sectors-on : (layout : Layout) → Sound layout → (bytes : List ℕ) (n : ℕ) → length (sectors_of layout bytes n) ≤ 64 → 20000 ≤ n → n ≤ 131072
    → BoundedTrack n (sectors_of layout bytes n)
sectors-on layout sound bytes n few long short =
    record {
      few = few;
      near = λ i. near-sector layout sound bytes n i short;
      within = λ i. within-sector layout sound bytes n i long;
      long = long;
      short = short;
    }

-- rows whose places and details are numbers of 32 bits
abbrev AllNarrow : List Row → Type 0
AllNarrow [] = Unit {0}
AllNarrow (row ∷ rest) = Narrow row × AllNarrow rest

narrow-append : (xs ys : List Row) → AllNarrow xs → AllNarrow ys → AllNarrow (xs ++ ys)
narrow-append [] ys h l = l
narrow-append (x ∷ xs) ys h l = (h.0, narrow-append xs ys h.1 l)

narrow_at : (xs : List Row) → AllNarrow xs → (k : ℕ) → Narrow (get_or xs k no_row)
narrow_at [] h k = record { place = omega arith; detail = omega arith }
narrow_at (x ∷ xs) h zero = h.0
narrow_at (x ∷ xs) h (suc k) = narrow_at xs h.1 k

narrow : (holds : Bool) (place detail : ℕ) → place ≤ 131072 → detail ≤ 300000 → Narrow (record { holds = holds; place = place; detail = detail })
narrow holds place detail h l = record { place = omega arith; detail = omega arith }

narrow-track : (layout : Layout) (N sectors T : ℕ) → N ≤ 131072 → sectors ≤ 64 → AllNarrow (track_rows layout N sectors T)
unfolding track_rows
narrow-track layout N sectors T h l =
    let z : 0 ≤ 131072 = omega arith in
    let cells : N ≤ 300000 = omega arith in
    let number : sectors ≤ 300000 = omega arith in
    (narrow _ _ _ z cells, (narrow _ _ _ z cells, (narrow _ _ _ z number, (narrow _ _ _ z (omega arith), (narrow _ _ _ z number, tt)))))

narrow-gaps : (layout : Layout) (f : ℕ → ℕ) (N : ℕ) → N ≤ 131072 → AllNarrow (gap_rows (gaps_of layout f N))
unfolding gap_rows
narrow-gaps layout f N h =
    let few = gaps-few layout f N in
    (narrow _ _ _ (omega (arith, few.0)) (omega (arith, few.1)), (narrow _ _ _ (omega (arith, few.2)) (omega (arith, few.3)), tt))

module _ (s : Sector) (near : BoundedSector s) where
  on-sector : (holds : Bool) (detail : ℕ) → detail ≤ 300000 → Narrow (record { holds = holds; place = s.place; detail = detail })
  on-sector holds detail h = narrow holds s.place detail near.place h

  number : s.number ≤ 300000
  number = omega (arith, near.number)

  narrow-id : (layout : Layout) (T : ℕ) → AllNarrow (id_rows layout T s)
  unfolding id_rows
  narrow-id layout T = (
    on-sector _ _ number,
    (
      on-sector _ _ (omega (arith, near.track)),
      (
        on-sector _ _ (omega (arith, near.side)),
        (on-sector _ _ (omega (arith, near.size_code)), (on-sector _ _ (omega (arith, near.mark)), (on-sector _ _ (omega (arith, near.data_mark)), tt))),
      ),
    ),
  )

  narrow-data : (N : ℕ) → AllNarrow (data_rows N s)
  unfolding data_rows
  narrow-data N = (
    on-sector _ _ number,
    (
      on-sector _ _ number,
      (
        on-sector _ _ number,
        (on-sector _ _ (omega (arith, near.data_end)), (on-sector _ _ (omega (arith, near.data_place)), tt)),
      ),
    ),
  )

  narrow-sector : (layout : Layout) → Sound layout → (f : ℕ → ℕ) (N T : ℕ) (ss : List Sector) → AllNarrow (sector_rows layout f N T ss s)
  unfolding sector_rows
  narrow-sector layout sound f N T ss =
      narrow-append (id_rows layout T s) _ (narrow-id layout T)
      (narrow-append (data_rows N s) _ (narrow-data N) (on-sector _ _ number, (on-sector _ _ (omega (arith, inside-few layout sound f s, near.data_end)), tt)))

-- each row of the table
pub row-narrow : (layout : Layout) → Sound layout → (f : ℕ → ℕ) (N T : ℕ) (ss : List Sector) → N ≤ 131072 → length ss ≤ 64 → (k i : ℕ) → BoundedSector (nth ss i) → Narrow (row_at layout f N T ss k i)
unfolding row_at rows
row-narrow layout sound f N T ss h l k i near =
    narrow_at (rows layout f N T ss i)
    (narrow-append (track_rows layout N (length ss) T) _ (narrow-track layout N (length ss) T h l)
    (on-sector (nth ss i) near _ _ (number (nth ss i) near), narrow-append (sector_rows layout f N T ss (nth ss i)) _ (narrow-sector (nth ss i) near layout sound f N T ss) (narrow-gaps layout f N h)))
    k

-- a track has no more findings than there is room for
pub few-kept : (density : Density) (bytes : List ℕ) (n track : ℕ) (ss : List Sector) → BoundedTrack n ss → length (joined (of_kind (layout_of density) (cell bytes n) n track ss) kinds) ≤ 901
few-kept density bytes n track ss b = few_findings (layout_of density) (sound density) (cell bytes n) n track ss b.few
