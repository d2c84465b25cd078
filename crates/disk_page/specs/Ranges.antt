-- Section 16 of the specification, rules 16.10, 16.11 and 16.16: which tracks of a disk have TNF, and the ranges that they make. H is a side
-- and T a track. Assumes nothing.
use Rattle.std.specs.Prelude.{ℕ, zero, suc, ◌+◌, ◌-◌, Bool, true, false, not, ◌&&◌, List, eqb}
use Rattle.basis.specs.Search.{least}
use Rattle.disk_tracks.specs.Given.{some, tracks_in, own_at, before, kind_at}
use Rattle.disk_tracks.specs.Judgement.{is_at}

-- 16.10: track T of side H has TNF: it is given, and some finding of it is of kind 4
unfoldable pub has_tnf : (tracks findings : List ℕ) → (H T : ℕ) → Bool
has_tnf tracks findings H T =
    some (λ i. is_at tracks H T i && some (λ k. eqb (kind_at findings (before tracks i + k)) 4) (own_at tracks i)) (tracks_in tracks)

-- 16.11: the track before T has TNF, so that T goes on with a range. Before track 0 there is none
unfoldable pub goes_on : (tracks findings : List ℕ) → (H T : ℕ) → Bool
goes_on tracks findings H zero = false
goes_on tracks findings H (suc T) = has_tnf tracks findings H T

-- 16.11: the last track of the range that begins with T: the least one from T on whose next track has no TNF
unfoldable pub last_of : (tracks findings : List ℕ) → (H T : ℕ) → ℕ
last_of tracks findings H T = least (λ U. not (has_tnf tracks findings H (U + 1))) (84 - T) T

-- 16.16: a side is empty where each of the tracks 0 to 79 has TNF
unfoldable pub is_empty : (tracks findings : List ℕ) → (H : ℕ) → Bool
is_empty tracks findings H = not (some (λ T. not (has_tnf tracks findings H T)) 80)

abbrev pub exactly_one : Bool → Bool → Bool
exactly_one true second = not second
exactly_one false second = second

-- 16.16: a disk is single-sided where exactly one side is empty
unfoldable pub is_single_sided : (tracks findings : List ℕ) → Bool
is_single_sided tracks findings = exactly_one (is_empty tracks findings 0) (is_empty tracks findings 1)
