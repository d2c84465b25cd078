-- How often each kind looks, and its rows as the code takes them. A kind is given by its index, from 0. Assumes nothing.
use Prim.Native.Nat.{ℕ, zero, suc, ◌-◌, ◌<◌, ◌≤◌}
use mathlib.Core.Path.{◌≡◌, refl, sym, ap, ◌∙◌}
use mathlib.Core.Bool.{Bool}
use mathlib.Core.List.{List, [], ◌∷◌}
use native.Mathlib.Decide.{dec_le}
use native.Mathlib.Nat.{lt_of_not-le}
use native.Mathlib.Omega.{arith}
use borrow.Author.Tests.{lt-ltb, le-ltb, le-leb, lt-leb}
use lib.ListN.{length, get_or, take}
use Rattle.std.specs.List.{list_any}
use Rattle.basis.specs.Lists.{joined}
use Rattle.cell_patterns.specs.Cells.{gaps_of}
use Rattle.finding_rules.specs.Rules.{no_row, nth, same_number, track_rows, id_rows, data_rows, sector_rows, gap_rows, rows}
use Rattle.finding_rules.specs.declared.Row.{Row}
use Rattle.finding_rules.proofs.Rows.{length-on-sector, row-track, row-dsn, row-sector, row-gaps}
use Rattle.finding_list.specs.Findings.{looks, row_at, found_by, found_at, of_kind}
use Rattle.finding_list.proofs.Others.{some_is_any}
use Rattle.layouts.specs.declared.Layout.{Layout}
use Rattle.sector_records.specs.declared.Sector.{Sector}

module _ (ss : List Sector) (k : ℕ) where
  pub looks-first : k < 5 → looks ss k ≡ 1
  unfolding looks
  looks-first h = rw (lt-leb 5 k h)

  pub looks-sectors : 5 ≤ k → k < 19 → looks ss k ≡ length ss
  unfolding looks
  looks-sectors h l = rw (le-leb 5 k h, lt-ltb k 19 l)

  pub looks-last : 19 ≤ k → looks ss k ≡ 1
  unfolding looks
  looks-last h = rw (le-leb 5 k (omega arith), le-ltb k 19 h)

module _ (layout : Layout) (f : ℕ → ℕ) (N T : ℕ) (ss : List Sector) (k : ℕ) where
  -- a kind that looks once finds what its row finds
  pub once : (row : Row) → looks ss k ≡ 1 → row ≡ row_at layout f N T ss k 0 → found_by k row ≡ of_kind layout f N T ss k
  unfolding of_kind found_at joined
  once row e g = rw (e, g)

  pub row_first : k < 5 → get_or (track_rows layout N (length ss) T) k no_row ≡ row_at layout f N T ss k 0
  unfolding row_at
  row_first h = sym (row-track layout f N T ss 0 k h)

  pub row_last : 19 ≤ k → get_or (gap_rows (gaps_of layout f N)) (k - 19) no_row ≡ row_at layout f N T ss k 0
  unfolding row_at
  row_last h = sym (row-gaps layout f N T ss 0 k h)

  -- a kind on sectors finds what its rows find at each
  pub row-on-sector : 6 ≤ k → k < 19 → (i : ℕ) → get_or (sector_rows layout f N T ss (nth ss i)) (k - 6) no_row ≡ row_at layout f N T ss k i
  unfolding row_at
  row-on-sector h l i = sym (row-sector layout f N T ss i k h l)

  pub sector-kind : 5 ≤ k → k < 19 → joined (found_at layout f N T ss k) (length ss) ≡ of_kind layout f N T ss k
  unfolding of_kind
  sector-kind h l = rw (looks-sectors ss k h l)

-- the rows of kinds on sectors stand at the sector's place
abbrev AllAt : ℕ → List Row → Type 0
AllAt p [] = Unit {0}
AllAt p (row ∷ rest) = (row.place ≡ p) × AllAt p rest

place_at : (p : ℕ) (group : List Row) → AllAt p group → (k : ℕ) → k < length group → (get_or group k no_row).place ≡ p
place_at p [] h k l = absurd (omega arith)
place_at p (row ∷ rest) h zero l = h.0
place_at p (row ∷ rest) h (suc k) l = place_at p rest h.1 k (omega arith)

module _ (layout : Layout) (f : ℕ → ℕ) (N T : ℕ) (ss : List Sector) (k i : ℕ) where
  all-at : (s : Sector) → AllAt s.place (sector_rows layout f N T ss s)
  unfolding sector_rows id_rows data_rows
  all-at s = (refl, (refl, (refl, (refl, (refl, (refl, (refl, (refl, (refl, (refl, (refl, (refl, (refl, tt)))))))))))))

  pub sector-place : 5 ≤ k → k < 19 → (row_at layout f N T ss k i).place ≡ (nth ss i).place
  unfolding row_at
  sector-place h l = go (dec_le 6 k)
    where
      go : Dec (6 ≤ k) → (get_or (rows layout f N T ss i) k no_row).place ≡ (nth ss i).place
      go (no a) = let e : k ≡ 5 = omega (arith, lt_of_not-le a) in ap (λ (row : Row). row.place) (row-dsn layout f N T ss i k e)
      go (yes a) =
          ap (λ (row : Row). row.place) (row-sector layout f N T ss i k a l)
          ∙ place_at (nth ss i).place (sector_rows layout f N T ss (nth ss i)) (all-at (nth ss i)) (k - 6) (omega (arith, length-on-sector layout f N T ss i k))

-- the row of DSN at sector i, where the earlier sectors are searched
module _ (layout : Layout) (f : ℕ → ℕ) (N T : ℕ) (ss : List Sector) (i : ℕ) where
  pub row-duplicate : (twice : Bool) → twice ≡ list_any (same_number (nth ss i)) (take i ss)
      → record { holds = twice; place = (nth ss i).place; detail = (nth ss i).number } ≡ row_at layout f N T ss 5 i
  unfolding row_at
  row-duplicate twice e = rw (row-dsn layout f N T ss i 5 refl, e, some_is_any (same_number (nth ss i)) (take i ss))
