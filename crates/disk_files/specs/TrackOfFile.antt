-- Section 13 of the specification, rules 13.42 and 13.43: what a track file brings to the page of a disk: its track with the findings of that track,
-- or a refusal. The main property: a file adds these numbers to the two lists that a page is made of, and one that is refused adds none.
-- Assumes nothing.
use Rattle.std.specs.Prelude.{ℕ, List, [], ◌∷◌, length}
use Rattle.findings.specs.Calls.{findings_answer}
use Rattle.finding_list.specs.Calls.{numbers_of, most_findings}
use Rattle.finding_list.specs.Findings.{findings_of}
use Rattle.finding_list.specs.declared.Finding.{Finding}
use Rattle.layouts.specs.Layouts.{double_density}
use Rattle.refusals.specs.RefusedCalls.{Answer}
use Rattle.refusals.specs.RefusedCalls.Answer.{gives, refused}
use Rattle.track_file.specs.TrackFile.{Content, file_answer_in, file_buffer}

-- a track of a disk, with its side and its findings
pub record FoundTrack : Type 0 where
  pub track : ℕ
  pub side : ℕ
  pub findings : List Finding

-- a track where a call gives how many findings it has, and else that call's refusal
unfoldable pub found : Answer ℕ → FoundTrack → Answer FoundTrack
found (gives count) track = gives track
found (refused number value) track = refused number value

-- 13.42: track T of side H with these cells and its findings, or refusal 1, 2 or 4, as the listing of the track has them
unfoldable pub track_found : (cells : List ℕ) (N T H : ℕ) → Answer FoundTrack
track_found cells N T H =
    found (findings_answer double_density cells N T H most_findings) (record { track = T; side = H; findings = findings_of double_density cells N T })

-- 13.42: what is found of a file that gives this, with these packed cells: the file's refusal goes first
unfoldable pub file_track : Answer Content → (cells : List ℕ) → Answer FoundTrack
file_track (gives content) cells = track_found cells content.cells content.track content.side
file_track (refused number value) cells = refused number value

-- 13.42: the same of a whole file that is read with a cell buffer of `room` bytes
unfoldable pub track_of_file : ℕ → List ℕ → Answer FoundTrack
track_of_file room file = file_track (file_answer_in room file) (file_buffer room file)

-- 13.42: how many findings it has, or its refusal
unfoldable pub finding_count : Answer FoundTrack → Answer ℕ
finding_count (gives found) = gives (length found.findings)
finding_count (refused number value) = refused number value

-- 13.43, 16.1: what is added to the list of tracks: track, side and number of findings. A refused file adds nothing
unfoldable pub track_numbers : Answer FoundTrack → List ℕ
track_numbers (gives found) = found.track ∷ found.side ∷ length found.findings ∷ []
track_numbers (refused number value) = []

-- 13.43, 16.2: what is added to the list of findings
unfoldable pub finding_numbers : Answer FoundTrack → List ℕ
finding_numbers (gives found) = numbers_of found.findings
finding_numbers (refused number value) = []
