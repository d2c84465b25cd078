-- Section 16 of the specification, rule 16.19: the page has each finding that is given just once, a range standing for the TNF of each of its
-- tracks. The main property is `EachOnce`, proved in proofs/Once for all tracks and findings that are accepted. Assumes nothing.
use Rattle.std.specs.Prelude.{ℕ, ◌+◌, ◌≤◌, ◌≡◌, Bool, cond, ◌&&◌, List, [], ◌∷◌, eqb, leb}
use Rattle.basis.specs.Lists.{joined}
use Rattle.disk_tracks.specs.Given.{tracks_in, track_at, side_at, own_at, before, kind_at, level_at, place_at, detail_at}
use Rattle.disk_page.specs.Page.{Entry, page_entries}

-- 16.19: a finding of a disk: the side and the track that it is on, and its four numbers
pub record Item : Type 0 where
  pub side : ℕ
  pub track : ℕ
  pub kind : ℕ
  pub level : ℕ
  pub place : ℕ
  pub detail : ℕ

-- 16.19: finding k of the track given at index i
abbrev pub item_at : (tracks findings : List ℕ) → (i k : ℕ) → Item
item_at tracks findings i k =
    record {
      side = side_at tracks i;
      track = track_at tracks i;
      kind = kind_at findings (before tracks i + k);
      level = level_at findings (before tracks i + k);
      place = place_at findings (before tracks i + k);
      detail = detail_at findings (before tracks i + k);
    }

-- 16.19: all findings that are given, track after track
unfoldable pub given : (tracks findings : List ℕ) → List Item
given tracks findings = joined (λ i. joined (λ k. item_at tracks findings i k ∷ []) (own_at tracks i)) (tracks_in tracks)

-- 16.19: two findings are the same
unfoldable pub is_item : Item → Item → Bool
is_item x y =
    eqb y.side x.side && eqb y.track x.track && eqb y.kind x.kind && eqb y.level x.level && eqb y.place x.place
    && eqb y.detail x.detail

-- 16.19: an entry stands for a finding: it is on that side, the track is one from its first to its last, and it has the finding's four numbers
unfoldable pub stands_for : Item → Entry → Bool
stands_for x e =
    eqb e.side x.side && leb e.first x.track && leb x.track e.last && eqb e.kind x.kind && eqb e.level x.level
    && eqb e.place x.place && eqb e.detail x.detail

-- how many elements of a list pass a test
unfoldable pub times : {A : Type 0} → (A → Bool) → List A → ℕ
times test [] = 0
times test (x ∷ xs) = cond (test x) 1 0 + times test xs

-- 16.19: as many entries of the page stand for a finding as it is given times, for every finding that there could be; and none is given twice
abbrev pub EachOnce : (tracks findings : List ℕ) → Type 0
EachOnce tracks findings =
    (x : Item) → (times (stands_for x) (page_entries tracks findings) ≡ times (is_item x) (given tracks findings)) × (times (is_item x) (given tracks findings) ≤ 1)
