-- Section 11 of the specification: the listing of a track, as bytes.
--
--   T05 H0 cells 100000 sectors 0 findings 2
--   3 NOS level 3 place 0 detail 0
--   4 TNF level 2 place 0 detail 0
--
-- N is the number of cells, T and H are the drive's track and side; `bytes` are the packed cells. The main property: what `list_track`
-- writes is `listing_of`, for every track and every buffer; where the buffer is too short, as much of it as fits, and the answer is its whole
-- length. Assumes nothing.
use Rattle.layouts.specs.Layouts.{double_density}
use Rattle.std.specs.Prelude.{ℕ, List, [], ◌∷◌, ◌++◌, length}
use Rattle.findings.specs.Calls.{findings_answer}
use Rattle.finding_list.specs.Findings.{findings_of}
use Rattle.finding_list.specs.declared.Finding.{Finding}
use Rattle.lines.specs.Lines.{header_of, finding_line, refused_line}
use Rattle.refusals.specs.RefusedCalls.{Answer}
use Rattle.refusals.specs.RefusedCalls.Answer.{gives, refused}
use Rattle.sector_records.specs.Sectors.{sectors_of}

-- 11.1: a line for each finding, in the order of the findings
unfoldable pub lines_of : List Finding → List ℕ
lines_of [] = []
lines_of (x ∷ xs) = finding_line x.kind x.level x.place x.detail ++ lines_of xs

-- 11.4: what is printed of a track: its listing where it is accepted, and else the line with the refusal's number
unfoldable pub printed : Answer ℕ → List ℕ → List ℕ
printed (gives findings) listing = listing
printed (refused number value) listing = refused_line number

-- 9.12, 11.1, 11.7: the listing of a track: the header, and then the lines. The track is judged as for its findings, with room for 901 of
-- them, so that 5 is never given (`never-five`, in proofs/Laws)
unfoldable pub listing_of : List ℕ → (N T H : ℕ) → List ℕ
listing_of bytes N T H =
    printed (findings_answer double_density bytes N T H 901)
    (header_of T H N (length (sectors_of double_density bytes N)) (length (findings_of double_density bytes N T)) ++ lines_of (findings_of double_density bytes N T))
