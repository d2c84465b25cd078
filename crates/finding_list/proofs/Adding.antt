-- The findings of a track's kinds, put into the list kind after kind and look after look. Assumes nothing.
use Prim.Native.Nat.{ℕ, zero, suc, ◌+◌, ◌-◌, ◌<◌, ◌≤◌}
use mathlib.Core.Path.{◌≡◌, refl, sym, ap, ◌∙◌}
use mathlib.Core.Bool.{Bool}
use mathlib.Core.List.{List, [], append-nil}
use native.Mathlib.Decide.{dec_le}
use native.Mathlib.Nat.{lt_of_not-le}
use native.Mathlib.Omega.{arith}
use borrow.Author.Tests.{lt-leb}
use lib.ListN.{length, get_or, take, replicate, length-replicate}
use Rattle.std.specs.List.{list_any}
use Rattle.basis.specs.Lists.{joined}
use Rattle.basis.proofs.Joined.{joined-none}
use Rattle.cells.specs.CellsAndBytes.{cell}
use Rattle.cell_patterns.specs.Cells.{gaps_of, longest_run, longest_start, GapsFound}
use Rattle.cell_patterns.proofs.Bounds.{gaps-few}
use Rattle.cell_patterns.specs.declared.Gaps.{Gaps}
use Rattle.finding_rules.specs.Rules.{no_row, nth, same_number, track_rows, sector_rows, nfa, gap_rows}
use Rattle.finding_rules.specs.declared.Row.{Row}
use Rattle.finding_list.specs.Findings.{kinds, row_at, found_by, found_at, of_kind}
use Rattle.finding_list.specs.PrivateContracts.{Narrow, Room, Added}
use Rattle.finding_list.specs.SurveyContracts.{ListedBefore, LookedBefore, sector_row}
use Rattle.finding_list.specs.declared.facts.Surveyed.{Surveyed}
use Rattle.finding_list.specs.declared.Finding.{Finding}
use Rattle.finding_list.proofs.Bounds.{row-narrow, few-kept}
use Rattle.finding_list.proofs.Looks.{once, looks-first, looks-last, row_first, row_last, row-on-sector, sector-kind, row-duplicate}
use Rattle.finding_list.proofs.Numbers.{added-same, room-same, joined-start, joined-next, joined-room, looks-start, looks-more, looks-end, looks-room}
use Rattle.layouts.specs.Layouts.{layout_of}
use Rattle.layouts.specs.declared.Layout.{Layout}
use Rattle.layouts.proofs.Soundness.{sound}
use Rattle.sector_records.specs.declared.Sector.{Sector}

start_is : (layout : Layout) (f : ℕ → ℕ) (n : ℕ) → longest_start f n ≡ (gaps_of layout f n).start
unfolding gaps_of
start_is layout f n = refl

longest-is : (layout : Layout) (f : ℕ → ℕ) (n : ℕ) → longest_run f n ≡ (gaps_of layout f n).longest
unfolding gaps_of
longest-is layout f n = refl

nfa-same : (k : ℕ) (gaps other : Gaps) → gaps.start ≡ other.start → gaps.longest ≡ other.longest → found_by k (nfa gaps) ≡ found_by k (nfa other)
nfa-same k gaps other e g = rw (e, g)

nfa-none : (k : ℕ) (gaps : Gaps) → gaps.longest < 1000 → found_by k (nfa gaps) ≡ []
unfolding found_by
nfa-none k gaps h = rw (lt-leb 1000 gaps.longest h)

-- of the longest run, NFA asks no more than was found
module _ (layout : Layout) (f : ℕ → ℕ) (n : ℕ) (gaps : Gaps) (g : GapsFound layout f n gaps) where
  gap-row-found : (k j : ℕ) → found_by k (get_or (gap_rows gaps) j no_row) ≡ found_by k (get_or (gap_rows (gaps_of layout f n)) j no_row)
  unfolding found_by gap_rows
  gap-row-found k zero = rw (g.first, g.violations)
  gap-row-found k (suc zero) = go (dec_le 1000 (longest_run f n))
    where
      go : Dec (1000 ≤ longest_run f n) → found_by k (nfa gaps) ≡ found_by k (nfa (gaps_of layout f n))
      go (yes h) = let r = g.run.long h in nfa-same k gaps (gaps_of layout f n) (r.0 ∙ start_is layout f n) (r.1 ∙ longest-is layout f n)
      go (no h) = nfa-none k gaps (g.run.short (lt_of_not-le h)) ∙ sym (nfa-none k (gaps_of layout f n) (rw (← longest-is layout f n) (lt_of_not-le h)))
  gap-row-found k (suc (suc j)) = refl

  gap-row-fits : n ≤ 131072 → (j : ℕ) → Narrow (get_or (gap_rows gaps) j no_row)
  unfolding gap_rows
  gap-row-fits h zero = let b = gaps-few layout f n in record { place = omega (arith, g.first, b.0); detail = omega (arith, g.violations, b.1) }
  gap-row-fits h (suc zero) = record { place = omega (arith, g.run.start_few); detail = omega (arith, g.run.longest_few) }
  gap-row-fits h (suc (suc j)) = record { place = omega arith; detail = omega arith }

-- the kinds of one track
module _ (survey : Surveyed) where
  abbrev layout : Layout
  layout = layout_of survey.density

  abbrev n : ℕ
  n = survey.track.cells.count

  abbrev track : ℕ
  track = survey.track.track

  abbrev f : ℕ → ℕ
  f = cell survey.track.cells.bytes.now survey.track.cells.count

  abbrev ss : List Sector
  ss = survey.sectors.now

  abbrev row : (k i : ℕ) → Row
  row k i = row_at layout f n track ss k i

  abbrev by_kind : ℕ → List Finding
  by_kind = of_kind layout f n track ss

  abbrev by_look : ℕ → ℕ → List Finding
  by_look = found_at layout f n track ss

  -- what `put` asks
  abbrev Puts : (k : ℕ) → Row → List ℕ → (at : ℕ) → Type 0
  Puts k r numbers at = (k < kinds) × Narrow r × Room numbers at (found_by k r)

  room : 0 + length (joined by_kind kinds) ≤ 901
  room = omega (arith, few-kept survey.density survey.track.cells.bytes.now n track ss survey.bounded)

  row-fits : (k i : ℕ) → Narrow (row k i)
  row-fits k i = row-narrow layout (sound survey.density) f n track ss survey.bounded.short survey.bounded.few k i (survey.bounded.near i)

  -- before the first kind
  pub none-listed : ListedBefore survey 0 (replicate 3604 0) 0
  none-listed = joined-start by_kind kinds (record { long = length-replicate {A = ℕ} 3604 0; fits = room })

  -- a kind that looks once
  module _ (k : ℕ) (r : Row) (e : found_by k r ≡ by_kind k) {numbers : List ℕ} {at : ℕ} (listed : ListedBefore survey k numbers at) where
    pub once-put : k < 21 → Narrow r → Puts k r numbers at
    once-put h fits = (h, fits, room-same refl refl (sym e) (joined-room by_kind kinds k h listed room))

    pub once-next : {k' : ℕ} → k' ≡ k + 1 → {after : List ℕ} {next : ℕ} → Added numbers at (found_by k r) after next → ListedBefore survey k' after next
    once-next {k'} z added = rw z (joined-next by_kind k listed (added-same refl refl e added))

  -- that is on the track's numbers
  module _ (k : ℕ) (h : k < 5) {layout' : Layout} (e : layout' ≡ layout) {r : Row} (is : r ≡ get_or (track_rows layout' n (length ss) track) k no_row) where
    track-row : r ≡ row k 0
    track-row = is ∙ ap (λ (l : Layout). get_or (track_rows l n (length ss) track) k no_row) e ∙ row_first layout f n track ss k h

    pub track-found : found_by k r ≡ by_kind k
    track-found = once layout f n track ss k r (looks-first ss k h) track-row

    pub track-fits : Narrow r
    track-fits = rw track-row (row-fits k 0)

  -- that is on its gaps
  module _ (k : ℕ) {r : Row} (is : r ≡ get_or (gap_rows survey.gaps) k no_row) where
    pub gaps-found : found_by (19 + k) r ≡ by_kind (19 + k)
    gaps-found =
        let z : 19 + k - 19 ≡ k = omega arith in
        ap (found_by (19 + k)) is
        ∙ gap-row-found layout f n survey.gaps survey.gaps_found (19 + k) k
        ∙ once layout f n track ss (19 + k) _ (looks-last ss (19 + k) (omega arith)) (rw z at (row_last layout f n track ss (19 + k) (omega arith)))

    pub gaps-fit : Narrow r
    gaps-fit = rw is (gap-row-fits layout f n survey.gaps survey.gaps_found survey.bounded.short k)

  -- a kind that looks at each sector
  pub look-first : (k : ℕ) {numbers : List ℕ} {at : ℕ} → ListedBefore survey k numbers at → LookedBefore survey k 0 numbers at
  look-first k listed = looks-start by_kind by_look k listed

  module _ (k : ℕ) (low : 5 ≤ k) (high : k < 19) where
    all-looks : joined (by_look k) (length ss) ≡ by_kind k
    all-looks = sector-kind layout f n track ss k low high

    module _ (i : ℕ) (r : Row) (e : r ≡ row k i) {numbers : List ℕ} {at : ℕ} (looked : LookedBefore survey k i numbers at) where
      pub look-put : i < length ss → Puts k r numbers at
      unfolding found_at
      look-put inside = (omega arith, rw e (row-fits k i), rw e (looks-room by_kind by_look kinds k (length ss) i (omega arith) inside all-looks looked room))

      pub look-next : {after : List ℕ} {next : ℕ} → Added numbers at (found_by k r) after next → LookedBefore survey k (i + 1) after next
      unfolding found_at
      look-next added = looks-more by_kind by_look k i looked (rw e at added)

    pub look-last : {i k' : ℕ} → i ≡ length ss → k' ≡ k + 1 → {numbers : List ℕ} {at : ℕ} → LookedBefore survey k i numbers at → ListedBefore survey k' numbers at
    look-last e z looked = rw z (rw (joined-none, append-nil) at (looks-end by_kind by_look k (length ss) all-looks (rw e at looked)))

  -- the row of a kind on each sector by itself is that of the kind's look
  pub row_is : (k i : ℕ) → k < 13 → {s : Sector} → s ≡ nth ss i → {r : Row} → r ≡ sector_row survey s k → r ≡ row (6 + k) i
  row_is k i h {s} g {r} e =
      let z : 6 + k - 6 ≡ k = omega arith in
      e
      ∙ ap (λ (s : Sector). get_or (sector_rows layout f n track ss s) k no_row) g
      ∙ rw z at (row-on-sector layout f n track ss (6 + k) (omega arith) (omega arith) i)

  -- the row of DSN at a sector, where the earlier ones are searched
  pub duplicate-row : (i : ℕ) {twice : Bool} → twice ≡ list_any (same_number (nth ss i)) (take i ss)
      → record { holds = twice; place = (nth ss i).place; detail = (nth ss i).number } ≡ row 5 i
  duplicate-row i {twice} e = row-duplicate layout f n track ss i twice e
