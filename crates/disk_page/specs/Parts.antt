-- Section 16 of the specification, rules 16.23 to 16.25: the page of a disk in parts, for those who have no room for all of it. The main property:
-- what `page_part` writes is `part_of`, for every disk that is accepted, every part and every buffer, and the parts make up the page (the law
-- `parts-are-page`). Assumes nothing.
use Rattle.std.specs.Prelude.{ℕ, ◌/◌, ◌%◌, cond, List, [], eqb, ltb, length, take}
use Rattle.disk_tracks.specs.Judgement.{judged}
use Rattle.lines.specs.Lines.{bytes_of}
use Rattle.refusals.specs.RefusedCalls.{Answer, buffer_after}
use Rattle.disk_page.specs.Ranges.{is_single_sided}
use Rattle.disk_page.specs.Page.{track_entries, entry_lines, giving}

-- 16.23, 16.25: the parts of the page, by their numbers: 0 to 83 have the lines of these tracks of side 0, 84 to 167 those of the tracks of side 1, and 168
-- has the last line, where it stands. A part with another number is empty
unfoldable pub part_of : (tracks findings : List ℕ) → ℕ → List ℕ
part_of tracks findings k =
    cond (ltb k 168) (entry_lines (track_entries tracks findings (k / 84) (k % 84)))
    (cond (eqb k 168) (cond (is_single_sided tracks findings) (bytes_of "single-sided\n") []) [])

-- 16.24: what the call answers: the length of the whole part, or the refusal, which is that of the page
unfoldable pub part_answer : (tracks findings : List ℕ) → ℕ → Answer ℕ
part_answer tracks findings k = giving (judged tracks findings) (length (part_of tracks findings k))

-- 16.24: the lent buffer afterwards, as for the whole page
unfoldable pub part_after : (tracks findings : List ℕ) → ℕ → List ℕ → List ℕ
part_after tracks findings k out = buffer_after (judged tracks findings) (take (length out) (part_of tracks findings k)) out
