-- Section 16 of the specification, rule 16.22: when the page says `single-sided`. The main property is `LastLine`, proved in proofs/LastLine for
-- all tracks and findings. Assumes nothing.
use Rattle.std.specs.Prelude.{ℕ, ◌+◌, ◌<◌, ◌≡◌, List, ◌++◌, ◌⊎◌}
use Rattle.lines.specs.Lines.{bytes_of}
use Rattle.disk_tracks.specs.Given.{tracks_in, track_at, side_at, own_at, before, kind_at}
use Rattle.disk_page.specs.Page.{page_entries, entry_lines, page_of}

-- 16.22: TNF stands among the findings given for track T of side H: finding k of the track at index i
pub record GivenTnf (tracks findings : List ℕ) (H T : ℕ) : Type 0 where
  pub i : ℕ
  pub k : ℕ
  pub within : i < tracks_in tracks
  pub own : k < own_at tracks i
  pub side : side_at tracks i ≡ H
  pub track : track_at tracks i ≡ T
  pub kind : kind_at findings (before tracks i + k) ≡ 4

-- 16.22: a side has TNF on all of the tracks 0 to 79
abbrev pub Empty : (tracks findings : List ℕ) → (H : ℕ) → Type 0
Empty tracks findings H = (T : ℕ) → T < 80 → GivenTnf tracks findings H T

-- 16.22: one side is so and the other is not
abbrev pub SingleSided : (tracks findings : List ℕ) → Type 0
SingleSided tracks findings =
    (Empty tracks findings 0 × (Empty tracks findings 1 → ⊥)) ⊎ ((Empty tracks findings 0 → ⊥) × Empty tracks findings 1)

-- 16.22: the page has the line `single-sided` after the lines of its entries where that is so, and nothing after them where it is not
abbrev pub LastLine : (tracks findings : List ℕ) → Type 0
LastLine tracks findings =
    (SingleSided tracks findings × (page_of tracks findings ≡ entry_lines (page_entries tracks findings) ++ bytes_of "single-sided\n"))
    ⊎ ((SingleSided tracks findings → ⊥) × (page_of tracks findings ≡ entry_lines (page_entries tracks findings)))
