-- What each kind finds on the standard track, whatever its data bytes and the two bytes after each sector's data are: EXT from track 80 on, SBD
-- where the two bytes are not the check word, and else nothing. Assumes nothing.
use Prim.Native.Nat.{ℕ, suc, ◌+◌, ◌-◌, ◌*◌, ◌/◌, ◌≤◌, ◌<◌}
use mathlib.Core.Path.{◌≡◌, refl, sym, ap, ap₂, ◌∙◌}
use mathlib.Core.Bool.{Bool, true, false, not, cond, ◌&&◌, ◌||◌}
use mathlib.Core.List.{List, [], ◌∷◌, ◌++◌, map}
use mathlib.Core.Logic.{◌⊎◌, inl, inr, ⊎_elim}
use native.Mathlib.Omega.{arith}
use borrow.Author.Tests.{leb-true, lt-leb, le-ltb, eq-eqb, ne_eqb}
use lib.Dec.{T, eqb, leb, ltb}
use lib.ListN.{length, get_or, take, get_or-map}
use lib.Seq.{get_or-take, length-take-le}
use Rattle.basis.specs.Lists.{listed, joined}
use Rattle.basis.proofs.Bools.{and-false, never_both, fails}
use Rattle.basis.proofs.Joined.{joined_to, joined-none, joined-more, joined_same, joined-empty}
use Rattle.basis.proofs.Lists.{length-listed, get_d-listed}
use Rattle.basis.proofs.Tables.{below, passes-below}
use Rattle.basis.proofs.Search.{count_none}
use Rattle.cell_patterns.specs.Cells.{syncs_between, syncs_inside}
use Rattle.finding_list.specs.Findings.{looks, row_at, found_by, found_at, of_kind, findings_of}
use Rattle.finding_list.specs.declared.Finding.{Finding}
use Rattle.finding_list.proofs.Looks.{looks-first, once, row_first, row-on-sector, sector-kind}
use Rattle.finding_rules.specs.Rules.{no_row, nth, some_sector, nos, tnf, ext, same_number, dsn, isn, itn, iif, ssz, nsi, nsd, sbi, snd, sbd, doi, dbi, starts_in_data, sws, sid, track_rows, id_rows, data_rows, sector_rows, gap_rows, rows}
use Rattle.finding_rules.specs.declared.Row.{Row}
use Rattle.layouts.specs.Layouts.{double_density}
use Rattle.sector_records.specs.Marks.{sync_at, word_mark_at}
use Rattle.sector_records.specs.Sectors.{no_sector}
use Rattle.sector_records.specs.declared.Sector.{Sector}
use Rattle.track_writer.specs.WriteTrack.{packed_from}
use Rattle.standard_track.proofs.Round.{track_cells, round-mtv, round-nfa}
use Rattle.standard_track.proofs.Pieces.{SyncPlace, Content, Bytes, track_pieces, standard-round}
use Rattle.standard_track.proofs.Marks.{place_of, same-sector, SyncIn, sync-found}
use Rattle.standard_track.proofs.Sectors.{good_end, record_of, IdChecks, sectors-there}

some-none : (test : Sector → Bool) (xs : List Sector) → ((j : ℕ) → j < length xs → test (nth xs j) ≡ false) → some_sector test xs ≡ false
unfolding some_sector
some-none test [] h = refl
some-none test (x ∷ xs) h = rw (h 0 (omega arith)) (some-none test xs (λ j l. h (suc j) (omega arith)))

row : {A : Type 0} {a b : A} {xs ys : List A} → a ≡ b → xs ≡ ys → a ∷ xs ≡ b ∷ ys
row e g = ap₂ (λ x y. x ∷ y) e g

-- ---- the table on one sector: whether each row holds
abbrev holds_in : List Row → List Bool
holds_in = map (λ (r : Row). r.holds)

-- of the 21 rows only those of EXT and SBD can hold
abbrev only_two : (x y : Bool) → List Bool
only_two x y =
    false ∷ false ∷ false ∷ false ∷ x ∷ false ∷ false ∷ false ∷ false ∷ false ∷ false ∷ false ∷ false ∷ false ∷ y
    ∷ false ∷ false ∷ false ∷ false ∷ false ∷ false ∷ []

abbrev may_hold : (x y : Bool) → ℕ → Bool
may_hold x y k = eqb k 4 || (eqb k 14 || not (get_or (only_two x y) k false))

all_others : (x y : Bool) → T (below (may_hold x y) 21)
all_others x y = tt

others-fail : (x y : Bool) (k : ℕ) → k < 21 → (k ≡ 4 → ⊥) → (k ≡ 14 → ⊥) → get_or (only_two x y) k false ≡ false
others-fail x y k l a b =
    go (eqb k 4) (eqb k 14) (get_or (only_two x y) k false) (ne_eqb k 4 a) (ne_eqb k 14 b) (passes-below (may_hold x y) 21 (all_others x y) k l)
  where
    go : (u v w : Bool) → u ≡ false → v ≡ false → T (u || (v || not w)) → w ≡ false
    go true v w e g t = absurd (never_both true refl e)
    go false true w e g t = absurd (never_both true refl g)
    go false false true e g t = absurd t
    go false false false e g t = refl

-- joined lists of 21, of which two may have elements
two-of-them : {A : Type 0} (f : ℕ → List A) → ((k : ℕ) → k < 21 → (k ≡ 4 → ⊥) → (k ≡ 14 → ⊥) → f k ≡ []) → joined f 21 ≡ f 4 ++ f 14
two-of-them {A} f none =
    joined_to f 15 21 (omega arith) (λ q a b. none q (omega arith) (λ e. absurd (omega arith)) (λ e. absurd (omega arith)))
    ∙ joined-more f 14
    ∙ ap (λ (l : List A). l ++ f 14)
    (joined_to f 5 14 (omega arith) (λ q a b. none q (omega arith) (λ e. absurd (omega arith)) (λ e. absurd (omega arith)))
    ∙ joined-more f 4
    ∙ ap (λ (l : List A). l ++ f 4)
    (joined_to f 0 4 (omega arith) (λ q a b. none q (omega arith) (λ e. absurd (omega arith)) (λ e. absurd (omega arith))) ∙ joined-none f))

module _ (C : Content) where
  abbrev ss : List Sector
  ss = listed (record_of C) 9

  nine : length (listed (record_of C) 9) ≡ 9
  nine = length-listed (record_of C) 9

  nth-is : (i : ℕ) → i < 9 → nth (listed (record_of C) 9) i ≡ record_of C i
  nth-is i h = get_d-listed (record_of C) no_sector 9 i h

  -- a rule on sector i
  on : (i : ℕ) → i < 9 → (rule : Sector → Row) (b : Bool) → (rule (record_of C i)).holds ≡ b → (rule (nth (listed (record_of C) 9) i)).holds ≡ b
  on i h rule b e = ap (λ (s : Sector). (rule s).holds) (nth-is i h) ∙ e

  -- DSN: the numbers are 1 to 9
  other-number : (i j : ℕ) → i < 9 → j < i → same_number (nth (listed (record_of C) 9) i) (nth (take i (listed (record_of C) 9)) j) ≡ false
  unfolding same_number record_of
  other-number i j h l =
      let e : nth (take i ss) j ≡ record_of C j = get_or-take i ss j no_sector l ∙ nth-is j (omega arith) in
      rw (e, nth-is i h) (ne_eqb (j + 1) (i + 1) (λ g. absurd (omega arith)))

  no-dsn : (i : ℕ) → i < 9 → (dsn (take i (listed (record_of C) 9)) (nth (listed (record_of C) 9) i)).holds ≡ false
  no-dsn i h =
      some-none (same_number (nth ss i)) (take i ss) (λ j l. other-number i j h (omega (arith, length-take-le i ss (omega (arith, nine)))))

  -- the rules on the ID
  no-isn : (i : ℕ) → i < 9 → (isn (record_of C i)).holds ≡ false
  unfolding record_of
  no-isn i h = rw (lt-leb 245 (i + 1) (omega arith))

  no-itn : (i : ℕ) → (itn C.track (record_of C i)).holds ≡ false
  unfolding record_of
  no-itn i = rw (eq-eqb C.track C.track refl)

  no-iif : C.track ≤ 83 → C.side ≤ 1 → (i : ℕ) → (iif (record_of C i)).holds ≡ false
  unfolding record_of
  no-iif t s i = rw (le-ltb 83 C.track t, le-ltb 1 C.side s)

  -- SBD: the check
  sbd-is : (i : ℕ) → (sbd (record_of C i)).holds ≡ not (good_end (C.data_of i) (C.e1 i) (C.e2 i))
  unfolding record_of
  sbd-is i = refl

  -- the data lies before the index
  no-doi : (i : ℕ) → i < 9 → (doi 100000 (record_of C i)).holds ≡ false
  unfolding record_of
  no-doi i h = rw (le-ltb 100000 (place_of i + 704 + 64 + 16 * 512 + 32) (omega arith), and-false (ltb (place_of i + 704) 100000))

  no-dbi : (i : ℕ) → i < 9 → (dbi 100000 (record_of C i)).holds ≡ false
  unfolding record_of
  no-dbi i h = rw (lt-leb 100000 (place_of i + 704) (omega arith))

  -- no ID mark stands in a sector's data, in this turn or in the next
  outside : (x i j : ℕ) → i < 9 → j < 9 → (x ≡ place_of i) ⊎ (x ≡ place_of i + 100000)
      → (leb (place_of j + 704) x && ltb x (place_of j + 704 + 64 + 16 * 512 + 32)) ≡ false
  outside x i j h l e = go (leb (place_of j + 704) x) refl
    where
      go : (b : Bool) → leb (place_of j + 704) x ≡ b → (b && ltb x (place_of j + 704 + 64 + 16 * 512 + 32)) ≡ false
      go false g = refl
      go true g =
          let m = leb-true (place_of j + 704) x g in
          le-ltb x (place_of j + 704 + 64 + 16 * 512 + 32) (⊎_elim (λ u. omega arith) (λ u. omega arith) e)

  not-inside : (i j : ℕ) → i < 9 → j < 9 → starts_in_data 100000 (record_of C i) (record_of C j) ≡ false
  unfolding starts_in_data record_of
  not-inside i j h l =
      rw (outside (place_of i) i j h l (inl refl), outside (place_of i + 100000) i j h l (inr refl))
      (and-false (not (eqb (place_of j) (place_of i)) && true))

  no-sws : (i : ℕ) → i < 9 → (sws 100000 (listed (record_of C) 9) (record_of C i)).holds ≡ false
  no-sws i h =
      some-none (starts_in_data 100000 (record_of C i)) ss
      (λ j l. let k : j < 9 = omega (arith, nine) in ap (starts_in_data 100000 (record_of C i)) (nth-is j k) ∙ not-inside i j h k)

module _ (C : Content) (B : Bytes C) (ids : IdChecks C) (rest : List ℕ) where
  abbrev cells : ℕ → ℕ
  cells = track_cells (track_pieces C) rest

  -- SID: a sync in sector i stands at one of its places
  sync-offset : (i r : ℕ) → i < 9 → 16 * (60 + 614 * i) ≤ r → r < 16 * (60 + 614 * i + 614) → sync_at (track_cells (track_pieces C) rest) r ≡ true
      → SyncPlace (r / 16 - (60 + 614 * i))
  sync-offset i r h a b e =
      let l : r < 100000 = omega arith in
      go (sync-found C B rest r l e)
    where
      place-high : (k : ℕ) → SyncPlace k → k ≤ 58
      place-high k (inl h) = omega (arith, h.1)
      place-high k (inr h) = h.1

      go : SyncIn C B rest r → SyncPlace (r / 16 - (60 + 614 * i))
      go s =
          let is = s.is in
          let k = place-high s.offset s.place in
          let same : s.sector ≡ i = same-sector s.sector i s.offset (r / 16 - (60 + 614 * i)) (omega arith) (omega arith) (omega arith) in
          let o : r / 16 - (60 + 614 * i) ≡ s.offset = omega arith in
          rw o s.place

  no-syncs-in-id : (i : ℕ) → i < 9 → syncs_between 0x4489 (track_cells (track_pieces C) rest) (place_of i + 64) (place_of i + 160) ≡ 0
  unfolding syncs_between word_mark_at
  no-syncs-in-id i h =
      let k : place_of i + 160 - 15 - (place_of i + 64) ≡ 81 = omega arith in
      rw k (count_none (sync_at cells) 81 (place_of i + 64) (λ q a b. fails (sync_at cells q) (λ e. none q a b e)))
    where
      none : (q : ℕ) → place_of i + 64 ≤ q → q < place_of i + 64 + 81 → sync_at cells q ≡ true → ⊥
      none q a b e = ⊎_elim (λ p. omega (arith, p.0, p.1)) (λ p. omega (arith, p.0, p.1)) (sync-offset i q h (omega arith) (omega arith) e)

  no-syncs-in-data : (i : ℕ) → i < 9
      → syncs_between 0x4489 (track_cells (track_pieces C) rest) (place_of i + 704 + 64) (place_of i + 704 + 64 + 16 * 512 + 32) ≡ 0
  unfolding syncs_between word_mark_at
  no-syncs-in-data i h =
      let k : place_of i + 704 + 64 + 16 * 512 + 32 - 15 - (place_of i + 704 + 64) ≡ 8209 = omega arith in
      rw k (count_none (sync_at cells) 8209 (place_of i + 704 + 64) (λ q a b. fails (sync_at cells q) (λ e. none q a b e)))
    where
      none : (q : ℕ) → place_of i + 704 + 64 ≤ q → q < place_of i + 704 + 64 + 8209 → sync_at cells q ≡ true → ⊥
      none q a b e = ⊎_elim (λ p. omega (arith, p.0, p.1)) (λ p. omega (arith, p.0, p.1)) (sync-offset i q h (omega arith) (omega arith) e)

  no-sid : (i : ℕ) → i < 9 → (sid (syncs_inside double_density (track_cells (track_pieces C) rest) (record_of C i)) (record_of C i)).holds ≡ false
  unfolding syncs_inside record_of double_density
  no-sid i h = rw (no-syncs-in-id i h, no-syncs-in-data i h)

  -- the whole table at sector i
  rows-there : C.track ≤ 83 → C.side ≤ 1 → (i : ℕ) → i < 9
      → holds_in (rows double_density (track_cells (track_pieces C) rest) 100000 C.track (listed (record_of C) 9) i)
      ≡ only_two (ext 9 C.track).holds (sbd (record_of C i)).holds
  unfolding rows track_rows sector_rows id_rows data_rows gap_rows double_density record_of
  rows-there t s i h =
      row refl
      (row refl
      (row (ap (λ (n : ℕ). (nos double_density n).holds) (nine C))
      (row (ap (λ (n : ℕ). (tnf n C.track).holds) (nine C))
      (row (ap (λ (n : ℕ). (ext n C.track).holds) (nine C))
      (row (no-dsn C i h)
      (row (on C i h isn false (no-isn C i h))
      (row (on C i h (itn C.track) false (no-itn C i))
      (row (on C i h iif false (no-iif C t s i))
      (row (on C i h (ssz double_density) false refl)
      (row (on C i h nsi false refl)
      (row (on C i h nsd false refl)
      (row (on C i h sbi false refl)
      (row (on C i h snd false refl)
      (row (on C i h sbd (sbd (record_of C i)).holds refl)
      (row (on C i h (doi 100000) false (no-doi C i h))
      (row (on C i h (dbi 100000) false (no-dbi C i h))
      (row (on C i h (sws 100000 (listed (record_of C) 9)) false (no-sws C i h))
      (row (on C i h (λ (s : Sector). sid (syncs_inside double_density cells s) s) false (no-sid i h))
      (row (round-mtv (track_pieces C) rest (standard-round C B))
      (row (round-nfa (track_pieces C) rest (standard-round C B)) refl))))))))))))))))))))

  -- a kind looks at nine sectors at most
  few-looks : (k : ℕ) → looks (listed (record_of C) 9) k ≤ 9
  unfolding looks
  few-looks k = go (leb 5 k && ltb k 19)
    where
      go : (b : Bool) → cond b (length (listed (record_of C) 9)) 1 ≤ 9
      go true = omega (arith, nine C)
      go false = omega arith

  abbrev kind_on : ℕ → List Finding
  kind_on = of_kind double_density cells 100000 C.track (listed (record_of C) 9)

  -- the other kinds find nothing
  none_of : C.track ≤ 83 → C.side ≤ 1 → (k : ℕ) → k < 21 → (k ≡ 4 → ⊥) → (k ≡ 14 → ⊥)
      → of_kind double_density (track_cells (track_pieces C) rest) 100000 C.track (listed (record_of C) 9) k ≡ []
  unfolding of_kind found_at found_by row_at
  none_of t s k l a b = joined-empty _ (looks (ss C) k) (λ i m. one i (omega (arith, few-looks k)))
    where
      fails-at : (i : ℕ) → i < 9 → (get_or (rows double_density cells 100000 C.track (ss C) i) k no_row).holds ≡ false
      fails-at i h =
          sym (get_or-map (λ (r : Row). r.holds) (rows double_density cells 100000 C.track (ss C) i) k no_row)
          ∙ ap (λ (l : List Bool). get_or l k false) (rows-there t s i h)
          ∙ others-fail (ext 9 C.track).holds (sbd (record_of C i)).holds k l a b

      one : (i : ℕ) → i < 9 → found_by k (row_at double_density cells 100000 C.track (ss C) k i) ≡ []
      one i h = rw (fails-at i h)

  ext-of : kind_on 4 ≡ found_by 4 (ext 9 C.track)
  unfolding track_rows
  ext-of =
      sym (once double_density cells 100000 C.track (ss C) 4 (ext (length (ss C)) C.track) (looks-first (ss C) 4 (omega arith))
      (row_first double_density cells 100000 C.track (ss C) 4 (omega arith)))
      ∙ ap (λ (n : ℕ). found_by 4 (ext n C.track)) (nine C)

  sbd-of : kind_on 14 ≡ joined (λ i. found_by 14 (sbd (record_of C i))) 9
  unfolding found_at sector_rows id_rows data_rows
  sbd-of =
      sym (sector-kind double_density cells 100000 C.track (ss C) 14 (omega arith) (omega arith))
      ∙ rw (nine C)
      (joined_same (found_at double_density cells 100000 C.track (ss C) 14) (λ i. found_by 14 (sbd (record_of C i))) 9
      (λ i h. ap (found_by 14) (sym (row-on-sector double_density cells 100000 C.track (ss C) 14 (omega arith) (omega arith) i))
      ∙ ap (λ (s : Sector). found_by 14 (sbd s)) (nth-is C i h)))

  pub findings-there : C.track ≤ 83 → C.side ≤ 1
      → findings_of double_density (packed_from 0 (track_pieces C) ++ rest) 100000 C.track
      ≡ found_by 4 (ext 9 C.track) ++ joined (λ i. found_by 14 (sbd (record_of C i))) 9
  unfolding findings_of
  findings-there t s =
      rw (sectors-there C B ids rest) (two-of-them kind_on (none_of t s) ∙ ap₂ (λ (x y : List Finding). x ++ y) ext-of sbd-of)
