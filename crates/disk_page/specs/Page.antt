-- Section 16 of the specification, rules 16.12 to 16.18: the page of a disk, as bytes.
--
--   T05 H0 3 NOS level 3 place 0 detail 12
--   T05 H1 3 NOS level 3 place 0 detail 0
--   T05-07 H1 4 TNF level 2 place 0 detail 0
--   T06 H1 3 NOS level 3 place 0 detail 0
--
-- The main property: what `disk_page` writes is `page_of`, for every disk that is accepted and every buffer; where the buffer is too short, as
-- much of it as fits, and the answer is its whole length. Assumes nothing.
use Rattle.std.specs.Prelude.{ℕ, ◌+◌, cond, List, [], ◌∷◌, ◌++◌, eqb, length, take}
use Rattle.basis.specs.Lists.{joined}
use Rattle.disk_tracks.specs.Given.{tracks_in, own_at, before, kind_at, level_at, place_at, detail_at}
use Rattle.disk_tracks.specs.Judgement.{is_at, judged}
use Rattle.disk_lines.specs.EntryLines.{entry_line}
use Rattle.lines.specs.Lines.{bytes_of}
use Rattle.refusals.specs.RefusedCalls.{Answer, buffer_after}
use Rattle.refusals.specs.RefusedCalls.Answer.{gives, refused}
use Rattle.disk_page.specs.Ranges.{goes_on, last_of, is_single_sided}

-- 16.12: an entry of the page: a finding on the tracks from `first` to `last` of a side
pub record Entry : Type 0 where
  pub side : ℕ
  pub first : ℕ
  pub last : ℕ
  pub kind : ℕ
  pub level : ℕ
  pub place : ℕ
  pub detail : ℕ

-- 16.12: the entry of the finding at index j, for the tracks T to U of side H
abbrev pub entry : (findings : List ℕ) → (H T U j : ℕ) → Entry
entry findings H T U j =
    record {
      side = H;
      first = T;
      last = U;
      kind = kind_at findings j;
      level = level_at findings j;
      place = place_at findings j;
      detail = detail_at findings j;
    }

-- 16.12, 16.13: the entry that the finding at index j brings, on track T of side H. TNF brings one for its whole range where it begins the range, and
-- none where it goes on with one. Any other finding brings its own
unfoldable pub entry_of : (tracks findings : List ℕ) → (H T j : ℕ) → List Entry
entry_of tracks findings H T j =
    cond (eqb (kind_at findings j) 4)
    (cond (goes_on tracks findings H T) [] (entry findings H T (last_of tracks findings H T) j ∷ []))
    (entry findings H T T j ∷ [])

-- 16.13: the entries of the findings of the track given at index i, in their order
unfoldable pub finding_entries : (tracks findings : List ℕ) → (H T i : ℕ) → List Entry
finding_entries tracks findings H T i = joined (λ k. entry_of tracks findings H T (before tracks i + k)) (own_at tracks i)

-- 16.13: the entries of track T of side H: those of the track that is given for it, if one is
unfoldable pub track_entries : (tracks findings : List ℕ) → (H T : ℕ) → List Entry
track_entries tracks findings H T = joined (λ i. cond (is_at tracks H T i) (finding_entries tracks findings H T i) []) (tracks_in tracks)

-- 16.13: the entries of a side, track after track
unfoldable pub side_entries : (tracks findings : List ℕ) → (H : ℕ) → List Entry
side_entries tracks findings H = joined (track_entries tracks findings H) 84

-- 16.13: the entries of the page, side after side
unfoldable pub page_entries : (tracks findings : List ℕ) → List Entry
page_entries tracks findings = side_entries tracks findings 0 ++ side_entries tracks findings 1

-- 16.14: the line of an entry, as in `T05 H0 3 NOS level 3 place 0 detail 12`
unfoldable pub line_of : Entry → List ℕ
line_of e = entry_line e.side e.first e.last e.kind e.level e.place e.detail

-- 16.14: a line for each entry
unfoldable pub entry_lines : List Entry → List ℕ
entry_lines [] = []
entry_lines (e ∷ es) = line_of e ++ entry_lines es

-- 16.15, 16.16: the page: a line for each entry, and for a single-sided disk a last line that says so
unfoldable pub page_of : (tracks findings : List ℕ) → List ℕ
page_of tracks findings = entry_lines (page_entries tracks findings) ++ cond (is_single_sided tracks findings) (bytes_of "single-sided\n") []

-- an accepted call gives `count`, a refused one its refusal
abbrev pub giving : Answer ℕ → ℕ → Answer ℕ
giving (gives findings) count = gives count
giving (refused number value) count = refused number value

-- 9.62, 16.17: what the call answers: the length of the whole page, or the refusal
unfoldable pub page_answer : (tracks findings : List ℕ) → Answer ℕ
page_answer tracks findings = giving (judged tracks findings) (length (page_of tracks findings))

-- 16.18: the lent buffer afterwards: as much of the page at its front as there is room for, and the rest is kept; beside a refusal all of it is
unfoldable pub page_after : (tracks findings : List ℕ) → List ℕ → List ℕ
page_after tracks findings out = buffer_after (judged tracks findings) (take (length out) (page_of tracks findings)) out
