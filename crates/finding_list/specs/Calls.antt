-- Section 9 of the specification, rule 9.18: the call that gives all findings of a track as numbers, in an array with room for 901. The
-- main property: the array holds the numbers of every finding, and zeros after them. Assumes nothing.
use Rattle.std.specs.Prelude.{ℕ, ◌*◌, List, [], ◌∷◌, ◌++◌, length, replicate, Result, Ok, Err}
use Rattle.basis.specs.Lists.{written_over}
use Rattle.refusals.specs.RefusedCalls.{Answer}
use Rattle.refusals.specs.RefusedCalls.Answer.{gives, refused}
use Rattle.finding_list.specs.Findings.{findings_of}
use Rattle.finding_list.specs.declared.Finding.{Finding}
use Rattle.finding_list.specs.declared.Found.{Found}
use Rattle.refusals.specs.declared.Refusal.{Refusal}
use Rattle.layouts.specs.declared.Layout.{Layout}
use Rattle.sectors.specs.Calls.{track_judged, count_judged}
use Rattle.sector_records.specs.Sectors.{sectors_of}

-- 7.35: a track with at most 64 sectors has no more findings than these
abbrev pub most_findings : ℕ
most_findings = 901

-- 9.18, 9.46: refusals 1 to 4, and else how many findings
unfoldable pub survey_answer : Layout → List ℕ → (N T H : ℕ) → Answer ℕ
survey_answer layout bytes N T H = track_judged bytes N T H (count_judged (length (sectors_of layout bytes N)) (gives (length (findings_of layout bytes N T))))

-- 9.18, 9.24: the number of sectors that is given too: the track's, or 0 beside a refusal
abbrev pub sectors_given : Answer ℕ → ℕ → ℕ
sectors_given (gives count) sectors = sectors
sectors_given (refused number value) sectors = 0

-- 9.18, 9.24: the same number as the call gives it, which a refusal leaves out
abbrev pub sectors_found : Result Found Refusal → ℕ
sectors_found (Ok found) = found.sectors
sectors_found (Err refusal) = 0

-- 7.34: findings as numbers, four for each: kind, level, place and detail
unfoldable pub numbers_of : List Finding → List ℕ
numbers_of [] = []
numbers_of (x ∷ xs) = (x.kind ∷ x.level ∷ x.place ∷ x.detail ∷ []) ++ numbers_of xs

-- 8.31, 9.18: the array afterwards: the numbers at its front, and zeros after them; beside a refusal it is kept
abbrev pub array_after : Answer ℕ → List Finding → List ℕ → List ℕ
array_after (gives count) findings array = written_over (numbers_of findings) (replicate (4 * most_findings) 0)
array_after (refused number value) findings array = array
