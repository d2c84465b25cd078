-- What follows from the definition of the findings. `bytes` are the packed cells of a track of N cells, T is the drive's track, and
-- kinds have their numbers from 1 to 21 (`kinds`). These laws are what rules 7.4 and 7.31 to 7.33 say of the list.
--
--   stands-exactly      a finding stands in the list exactly when the rule of its kind holds at one of its looks, with the place and detail
--                       of the row there
--   empty-means-none    the list is empty exactly when no rule holds
--   strictly-ordered    a later finding has a later kind, or the same kind and a later place
--   kinds-in-range      kinds are 1 to 21, and each has its level
--   rows_all            there are as many rows in the table as kinds
--   tnf-only            kind 4 stands only with level 2, place 0, detail 0, and T at most 79
--
-- The rows are those of finding_rules/specs/Rules. Assumes nothing.
use Prim.Native.Nat.{ℕ, ◌+◌, ◌-◌, ◌<◌, ◌≤◌}
use mathlib.Core.Path.{◌≡◌, refl, ap}
use mathlib.Core.Bool.{Bool, true, false, cond, ◌&&◌}
use mathlib.Core.List.Memᴰ
use mathlib.Core.List.{List, [], ◌∷◌, Memᴰ}
use mathlib.Core.Logic.{◌⊎◌, inl, inr, ◌↔◌}
use native.Mathlib.Decide.{dec_le}
use native.Mathlib.Nat.{lt_of_not-le}
use native.Mathlib.Omega.{arith}
use borrow.Author.Tests.{leb-true}
use lib.Dec.{eqb, leb}
use lib.ListN.{length, get_or}
use Rattle.cells.specs.CellsAndBytes.{cell}
use Rattle.finding_rules.specs.Rules.{track_rows, id_rows, data_rows, sector_rows, gap_rows, rows}
use Rattle.finding_rules.specs.declared.Row.{Row}
use Rattle.finding_list.specs.Findings.{kinds, looks, row_at, found_by, found_at, of_kind, findings_of}
use Rattle.finding_list.specs.declared.Finding.{Finding}
use Rattle.finding_list.proofs.Looks.{looks-first, looks-sectors, looks-last, sector-place}
use Rattle.finding_list.proofs.Members.{joined-from, joined-has, no-members, Ordered, ordered-joined, ordered_at}
use Rattle.layouts.specs.declared.Layout.{Layout}
use Rattle.levels.specs.Levels.{levels}
use Rattle.sector_records.specs.Sectors.{sectors_of}
use Rattle.sector_records.specs.declared.Sector.{Sector}
use Rattle.sector_records.proofs.Places.{sectors-ordered}

-- a finding of a kind, with the kind's level
abbrev pub finding : (kind place detail : ℕ) → Finding
finding kind place detail = record { kind = kind; level = get_or levels (kind - 1) 0; place = place; detail = detail }

-- it stands in the list
abbrev pub Stands : Layout → List ℕ → (N T kind place detail : ℕ) → Type 0
Stands layout bytes N T kind place detail = Memᴰ (finding kind place detail) (findings_of layout bytes N T)

-- the row of a kind at a look
abbrev pub row_of : Layout → List ℕ → (N T kind look : ℕ) → Row
row_of layout bytes N T kind look = row_at layout (cell bytes N) N T (sectors_of layout bytes N) (kind - 1) look

-- the rule of a kind holds at one of its looks, with this place and detail
pub record Holds (layout : Layout) (bytes : List ℕ) (N T kind place detail : ℕ) : Type 0 where
  pub look : ℕ
  pub below : look < looks (sectors_of layout bytes N) (kind - 1)
  pub holds : (row_of layout bytes N T kind look).holds ≡ true
  pub place_is : place ≡ (row_of layout bytes N T kind look).place
  pub detail_is : detail ≡ (row_of layout bytes N T kind look).detail

-- no rule holds at any look
abbrev pub NoRule : Layout → List ℕ → (N T : ℕ) → Type 0
NoRule layout bytes N T = (kind look : ℕ) → 1 ≤ kind → kind ≤ kinds → look < looks (sectors_of layout bytes N) (kind - 1) → (row_of layout bytes N T kind look).holds ≡ false

-- x stands before y
abbrev pub Before : Finding → Finding → Type 0
Before x y = (x.kind < y.kind) ⊎ ((x.kind ≡ y.kind) × (x.place < y.place))

-- there are as many rows in the table as kinds
pub rows_all : (layout : Layout) (f : ℕ → ℕ) (N T : ℕ) (ss : List Sector) (i : ℕ) → length (rows layout f N T ss i) ≡ kinds
unfolding rows track_rows sector_rows id_rows data_rows gap_rows
rows_all layout f N T ss i = refl

-- a test that does not pass fails
fails : (test : Bool) → (test ≡ true → ⊥) → test ≡ false
fails true h = absurd (h refl)
fails false h = refl

clash : (test : Bool) → test ≡ true → test ≡ false → ⊥
clash test e g = let z : ◌≡◌ {A = ℕ} 0 1 = cc in omega arith

second-passes : (a b : Bool) → (a && b) ≡ true → b ≡ true
second-passes true b e = e
second-passes false b e = let z : ◌≡◌ {A = ℕ} 0 1 = cc in absurd (omega arith)

-- what a row finds, k being the kind's index from 0
abbrev finding_by : ℕ → Row → Finding
finding_by k row = record { kind = k + 1; level = get_or levels k 0; place = row.place; detail = row.detail }

module _ (k : ℕ) (row : Row) where
  found-has : row.holds ≡ true → Memᴰ (finding_by k row) (found_by k row)
  unfolding found_by
  found-has e = rw e (Memᴰ.head refl)

  found-only : (x : Finding) → Memᴰ x (found_by k row) → (row.holds ≡ true) × (x ≡ finding_by k row)
  unfolding found_by
  found-only x m = go row.holds m
    where
      go : (b : Bool) → Memᴰ x (cond b (finding_by k row ∷ []) []) → (b ≡ true) × (x ≡ finding_by k row)
      go true l = (refl, Memᴰ.eq_of_singleton l)
      go false l = absurd (Memᴰ.not-nil l)

  found-ordered : Ordered Before (found_by k row)
  unfolding found_by
  found-ordered = go row.holds
    where
      go : (b : Bool) → Ordered Before (cond b (finding_by k row ∷ []) [])
      go true = (λ y m. absurd (Memᴰ.not-nil m), tt)
      go false = tt

module _ (layout : Layout) (bytes : List ℕ) (N T : ℕ) where
  abbrev ss : List Sector
  ss = sectors_of layout bytes N

  abbrev row : (k i : ℕ) → Row
  row = row_at layout (cell bytes N) N T (sectors_of layout bytes N)

  -- a finding of a kind comes from one of its looks
  pub record ComesAt (k : ℕ) (x : Finding) : Type 0 where
    pub look : ℕ
    pub below : look < looks (sectors_of layout bytes N) k
    pub holds : (row_at layout (cell bytes N) N T (sectors_of layout bytes N) k look).holds ≡ true
    pub is : x ≡ finding_by k (row_at layout (cell bytes N) N T (sectors_of layout bytes N) k look)

  comes-at : (k : ℕ) (x : Finding) → Memᴰ x (of_kind layout (cell bytes N) N T ss k) → ComesAt k x
  unfolding of_kind found_at
  comes-at k x m =
      let j = joined-from (found_at layout (cell bytes N) N T ss k) (looks ss k) x m in
      let o = found-only k (row k j.place) x j.member in
      record { look = j.place; below = j.below; holds = o.0; is = o.1 }

  -- a finding of the list comes from a kind
  record Comes (x : Finding) : Type 0 where
    kind : ℕ
    low : kind < kinds
    at : ComesAt kind x

  comes : (x : Finding) → Memᴰ x (findings_of layout bytes N T) → Comes x
  unfolding findings_of
  comes x m =
      let j = joined-from (of_kind layout (cell bytes N) N T ss) kinds x m in
      record { kind = j.place; low = j.below; at = comes-at j.place x j.member }

  -- kinds are 1 to 21, and each has its level
  pub kinds-in-range : (x : Finding) → Memᴰ x (findings_of layout bytes N T) → (1 ≤ x.kind) × (x.kind ≤ kinds) × (x.level ≡ get_or levels (x.kind - 1) 0)
  kinds-in-range x m =
      let c = comes x m in
      let k : c.kind + 1 - 1 ≡ c.kind = omega arith in
      rw c.at.is (omega arith, omega (arith, c.low), rw k refl)

  -- a finding stands in the list exactly when the rule of its kind holds at one of its looks, with its place and detail
  module _ (kind p d : ℕ) (low : 1 ≤ kind) (high : kind ≤ kinds) where
    held : Stands layout bytes N T kind p d → Holds layout bytes N T kind p d
    held m =
        let c = comes (finding kind p d) m in
        let n : kind ≡ c.kind + 1 = ap (λ (x : Finding). x.kind) c.at.is in
        let e : c.kind ≡ kind - 1 = omega arith in
        at-kind c.kind e c.at
      where
        at-kind : (k : ℕ) → k ≡ kind - 1 → ComesAt k (finding kind p d) → Holds layout bytes N T kind p d
        at-kind k e c =
            record {
              look = c.look;
              below = rw e at c.below;
              holds = rw e at c.holds;
              place_is = rw e at (ap (λ (x : Finding). x.place) c.is);
              detail_is = rw e at (ap (λ (x : Finding). x.detail) c.is);
            }

    stands : Holds layout bytes N T kind p d → Stands layout bytes N T kind p d
    unfolding findings_of of_kind found_at
    stands w =
        let e : kind - 1 + 1 ≡ kind = omega arith in
        let is : finding kind p d ≡ finding_by (kind - 1) (row (kind - 1) w.look) = rw (e, w.place_is, w.detail_is) in
        Memᴰ.cast is
        (joined-has (of_kind layout (cell bytes N) N T ss) kinds (kind - 1) _ (omega arith)
        (joined-has (found_at layout (cell bytes N) N T ss (kind - 1)) (looks ss (kind - 1)) w.look _ w.below (found-has (kind - 1) (row (kind - 1) w.look) w.holds)))

    pub stands-exactly : Stands layout bytes N T kind p d ↔ Holds layout bytes N T kind p d
    stands-exactly = (held, stands)

  -- an empty list means that no rule holds, and the other way round
  pub empty-means-none : (findings_of layout bytes N T ≡ []) ↔ NoRule layout bytes N T
  empty-means-none = (none, empty)
    where
      none : findings_of layout bytes N T ≡ [] → NoRule layout bytes N T
      none e kind look low high below =
          fails _
          (λ t. Memᴰ.not-nil (rw e at (stands kind _ _ low high (record { look = look; below = below; holds = t; place_is = refl; detail_is = refl }))))

      at_none : NoRule layout bytes N T → (x : Finding) (kind k : ℕ) → kind - 1 ≡ k → 1 ≤ kind → kind ≤ kinds → ComesAt k x → ⊥
      at_none none x kind k e low high c =
          clash (row k c.look).holds c.holds (rw e at (none kind c.look low high (rw e c.below)))

      empty : NoRule layout bytes N T → findings_of layout bytes N T ≡ []
      empty none =
          no-members (findings_of layout bytes N T)
          (λ x m. (let c = comes x m in at_none none x (c.kind + 1) c.kind (omega arith) (omega arith) (omega (arith, c.low)) c.at))

  -- the list is ordered by kind, then place, strictly
  rises : (k i j : ℕ) → i < j → j < looks ss k → (row k i).place < (row k j).place
  rises k i j h l = go (dec_le 5 k) (dec_le 19 k)
    where
      go : Dec (5 ≤ k) → Dec (19 ≤ k) → (row k i).place < (row k j).place
      go (no a) b = absurd (omega (arith, looks-first ss k (lt_of_not-le a)))
      go (yes a) (yes b) = absurd (omega (arith, looks-last ss k b))
      go (yes a) (no b) =
          let c = lt_of_not-le b in
          rw (sector-place layout (cell bytes N) N T ss k i a c, sector-place layout (cell bytes N) N T ss k j a c)
          (sectors-ordered layout bytes N i j h (omega (arith, looks-sectors ss k a c)))

  kind-ordered : (k : ℕ) → Ordered Before (of_kind layout (cell bytes N) N T ss k)
  unfolding of_kind found_at
  kind-ordered k =
      ordered-joined Before (found_at layout (cell bytes N) N T ss k) (looks ss k) (λ i h. found-ordered k (row k i))
      (λ i j x y h l a b. rw ((found-only k (row k i) x a).1, (found-only k (row k j) y b).1) (inr (refl, rises k i j h l)))

  pub strictly-ordered : (i j : ℕ) → i < j → j < length (findings_of layout bytes N T)
      → Before (get_or (findings_of layout bytes N T) i (finding 0 0 0)) (get_or (findings_of layout bytes N T) j (finding 0 0 0))
  unfolding findings_of
  strictly-ordered i j h l = ordered_at Before (finding 0 0 0) (findings_of layout bytes N T) i j all h l
    where
      all : Ordered Before (findings_of layout bytes N T)
      all =
          ordered-joined Before (of_kind layout (cell bytes N) N T ss) kinds (λ k h. kind-ordered k)
          (λ j k x y h l a b. rw ((comes-at j x a).is, (comes-at k y b).is) (inl (omega arith)))

  -- kind 4 stands only with level 2, place 0, detail 0, and T at most 79
  pub tnf-only : (x : Finding) → Memᴰ x (findings_of layout bytes N T) → x.kind ≡ 4 → (x.level ≡ 2) × (x.place ≡ 0) × (x.detail ≡ 0) × (T ≤ 79)
  unfolding levels row_at rows track_rows
  tnf-only x m e =
      let level = (kinds-in-range x m).2 in
      let is : finding x.kind x.place x.detail ≡ x = rw (← level) in
      let s : Stands layout bytes N T 4 x.place x.detail = rw e at (Memᴰ.cast is m) in
      let t = held 4 x.place x.detail (omega arith) (omega arith) s in
      (rw e at level, t.place_is, t.detail_is, leb-true T 79 (second-passes (eqb (length ss) 0) (leb T 79) t.holds))
