-- Section 9 of the specification, rules 9.1, 9.24, 9.44 and 9.45: the findings of a track in a list that the caller lends, of finding records or of
-- numbers. The main property: the list gets all findings at its front, or the call is refused and the list kept. Assumes nothing.
use Rattle.std.specs.Prelude.{ℕ, ◌/◌, cond, List, ltb, length}
use Rattle.refusals.specs.RefusedCalls.{Answer, buffer_after}
use Rattle.refusals.specs.RefusedCalls.Answer.{gives, refused}
use Rattle.finding_list.specs.Calls.{numbers_of}
use Rattle.finding_list.specs.Findings.{findings_of}
use Rattle.finding_list.specs.declared.Finding.{Finding}
use Rattle.layouts.specs.declared.Layout.{Layout}
use Rattle.sectors.specs.Calls.{track_judged, count_judged}
use Rattle.sector_records.specs.Sectors.{sectors_of}

-- 8.5, 9.1, 9.44: refusals 1 to 4, then 5 where there is room for `room` findings and they are more; else how many they are
unfoldable pub findings_answer : Layout → List ℕ → (N T H room : ℕ) → Answer ℕ
findings_answer layout bytes N T H room =
    track_judged bytes N T H
    (count_judged (length (sectors_of layout bytes N))
    (cond (ltb room (length (findings_of layout bytes N T))) (refused 5 (length (findings_of layout bytes N T))) (gives (length (findings_of layout bytes N T)))))

-- 7.34, 9.1, 9.44: the lent list of finding records afterwards
abbrev pub list_after : Layout → List ℕ → (N T H : ℕ) → List Finding → List Finding
list_after layout bytes N T H list = buffer_after (findings_answer layout bytes N T H (length list)) (findings_of layout bytes N T) list

-- 7.34, 9.24, 9.45: a lent list of numbers afterwards. It has room for a quarter as many findings, rounded down
abbrev pub numbers_after : Layout → List ℕ → (N T H : ℕ) → List ℕ → List ℕ
numbers_after layout bytes N T H list = buffer_after (findings_answer layout bytes N T H (length list / 4)) (numbers_of (findings_of layout bytes N T)) list
