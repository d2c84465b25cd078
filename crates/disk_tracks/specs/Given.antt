-- Section 16 of the specification, rules 16.1 and 16.2: the tracks of a disk and their findings, as two lists of numbers.
--
--   tracks     T  H  count   T  H  count   ..                             three numbers a track
--   findings   kind level place detail   kind level place detail   ..     four numbers a finding, in the order of the tracks
--
-- Assumes nothing.
use Rattle.std.specs.Prelude.{ℕ, zero, suc, ◌+◌, ◌*◌, ◌/◌, Bool, false, ◌||◌, List, length, get_or}

-- 16.1: how many tracks are given, three numbers each
abbrev pub tracks_in : List ℕ → ℕ
tracks_in tracks = length tracks / 3

-- 16.1: the track, the side and the number of findings of the track given at index i
abbrev pub track_at : List ℕ → ℕ → ℕ
track_at tracks i = get_or tracks (3 * i) 0

abbrev pub side_at : List ℕ → ℕ → ℕ
side_at tracks i = get_or tracks (3 * i + 1) 0

abbrev pub own_at : List ℕ → ℕ → ℕ
own_at tracks i = get_or tracks (3 * i + 2) 0

-- 16.2: how many findings the tracks before index i have: the index at which the findings of this track begin
unfoldable pub before : List ℕ → ℕ → ℕ
before tracks zero = 0
before tracks (suc i) = before tracks i + own_at tracks i

-- 16.2: how many findings are given, four numbers each
abbrev pub findings_in : List ℕ → ℕ
findings_in findings = length findings / 4

-- 16.2: the kind, the level, the place and the detail of the finding at index j
abbrev pub kind_at : List ℕ → ℕ → ℕ
kind_at findings j = get_or findings (4 * j) 0

abbrev pub level_at : List ℕ → ℕ → ℕ
level_at findings j = get_or findings (4 * j + 1) 0

abbrev pub place_at : List ℕ → ℕ → ℕ
place_at findings j = get_or findings (4 * j + 2) 0

abbrev pub detail_at : List ℕ → ℕ → ℕ
detail_at findings j = get_or findings (4 * j + 3) 0

-- some number below n passes the test
unfoldable pub some : (ℕ → Bool) → ℕ → Bool
some test zero = false
some test (suc n) = some test n || test n
