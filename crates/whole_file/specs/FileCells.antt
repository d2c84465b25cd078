-- Section 10 of the specification, rule 10.16: the call on a whole track file in memory, whose cells go to a lent buffer. The main
-- property: the room is judged last. The buffer afterwards is `buffer_after` of this answer and the file's cells. Assumes nothing.
use Rattle.std.specs.Prelude.{ℕ, cond, List, ltb}
use Rattle.cells.specs.CellsAndBytes.{bytes_for}
use Rattle.refusals.specs.RefusedCalls.{Answer}
use Rattle.refusals.specs.RefusedCalls.Answer.{gives, refused}
use Rattle.track_file.specs.TrackFile.{Content, file_answer}

-- 8.10, 10.16: a file's answer where its cells go to `room` bytes: 10 where they are too few for these cells, with the bytes that they need
-- beside it
unfoldable pub answer_in_room : ℕ → Answer Content → Answer Content
answer_in_room room (gives content) = cond (ltb room (bytes_for content.cells)) (refused 10 (bytes_for content.cells)) (gives content)
answer_in_room room (refused number value) = refused number value

-- 9.11, 10.16: the file is judged first, and then the room
abbrev pub cells_answer : ℕ → List ℕ → Answer Content
cells_answer room file = answer_in_room room (file_answer file)
