-- Section 16 of the specification, rules 16.3 to 16.9: which tracks and findings are accepted for a page. T is a track and H a side. The
-- main property: a list is refused exactly where one of these rules says so, with the first of them that does. Assumes nothing.
use Rattle.std.specs.Prelude.{ℕ, ◌+◌, ◌-◌, ◌%◌, Bool, cond, not, ◌&&◌, ◌||◌, List, eqb, ltb, length}
use Rattle.refusals.specs.RefusedCalls.{Answer, refused_with}
use Rattle.refusals.specs.RefusedCalls.Answer.{gives}
use Rattle.refusals.specs.declared.Refusal.TheVariants.{TrackOrSide, TrackGivenTwice, TooManyTracks, NotTheirFindings}
use Rattle.disk_tracks.specs.Given.{some, tracks_in, track_at, side_at, own_at, before, findings_in, kind_at, level_at, place_at, detail_at}

-- 16.4: a track above 83, or a side above 1
unfoldable pub is_outside : (T H : ℕ) → Bool
is_outside T H = ltb 83 T || ltb 1 H

unfoldable pub some_outside : List ℕ → Bool
some_outside tracks = some (λ i. is_outside (track_at tracks i) (side_at tracks i)) (tracks_in tracks)

-- 16.5: the track given at index i is track T of side H
unfoldable pub is_at : List ℕ → (H T i : ℕ) → Bool
is_at tracks H T i = eqb (side_at tracks i) H && eqb (track_at tracks i) T

-- 16.5: some track is given a second time: one before it is the same
unfoldable pub some_twice : List ℕ → Bool
some_twice tracks = some (λ i. some (is_at tracks (side_at tracks i) (track_at tracks i)) i) (tracks_in tracks)

-- 16.6: the lists have whole tracks and whole findings, and as many findings as the tracks say
unfoldable pub add_up : (tracks findings : List ℕ) → Bool
add_up tracks findings = eqb (length tracks % 3) 0 && eqb (length findings % 4) 0 && eqb (before tracks (tracks_in tracks)) (findings_in findings)

-- 16.7: a finding that track T cannot have: its kind is none of 1 to 21, or it is TNF, of kind 4, and T is above 79 or it has other numbers than
-- level 2, place 0 and detail 0. The level of another kind is not judged
unfoldable pub is_amiss : (T kind level place detail : ℕ) → Bool
is_amiss T kind level place detail =
    ltb kind 1 || ltb 21 kind || eqb kind 4 && (ltb 79 T || not (eqb level 2) || not (eqb place 0) || not (eqb detail 0))

-- 16.8: a finding stands after an earlier one: its kind is later, or it is the same and the place is later
unfoldable pub is_later : (earlier-kind earlier-place kind place : ℕ) → Bool
is_later earlier-kind earlier-place kind place = ltb earlier-kind kind || eqb earlier-kind kind && ltb earlier-place place

-- 16.7, 16.8: finding k of a track T, whose findings begin at index `start`, is one that T cannot have, or it does not stand after the one
-- before it
unfoldable pub amiss_at : (T : ℕ) → (findings : List ℕ) → (start k : ℕ) → Bool
amiss_at T findings start k =
    is_amiss T (kind_at findings (start + k)) (level_at findings (start + k)) (place_at findings (start + k)) (detail_at findings (start + k))
    || ltb 0 k
    && not (is_later (kind_at findings (start + k - 1)) (place_at findings (start + k - 1)) (kind_at findings (start + k)) (place_at findings (start + k)))

unfoldable pub some_amiss : (tracks findings : List ℕ) → Bool
some_amiss tracks findings = some (λ i. some (amiss_at (track_at tracks i) findings (before tracks i)) (own_at tracks i)) (tracks_in tracks)

-- 16.3, 16.4, 16.5, 16.6, 16.7, 16.8, 16.9: the judgement: 22 for more than 168 tracks, then 1, then 21, then 25. Else how many findings
-- there are
unfoldable pub judged : (tracks findings : List ℕ) → Answer ℕ
judged tracks findings =
    cond (ltb 168 (tracks_in tracks)) (refused_with TooManyTracks)
    (cond (some_outside tracks) (refused_with TrackOrSide)
    (cond (some_twice tracks) (refused_with TrackGivenTwice)
    (cond (not (add_up tracks findings) || some_amiss tracks findings) (refused_with NotTheirFindings)
    (gives (findings_in findings)))))
