-- Section 17 of the specification, rules 17.8 and 17.9: the call, with its refusals 20 and 10. Assumes nothing.
use Rattle.std.specs.Prelude.{ℕ, cond, List, ltb, length}
use Rattle.cells.specs.CellsAndBytes.{bytes_for}
use Rattle.refusals.specs.RefusedCalls.{Answer, buffer_after}
use Rattle.refusals.specs.RefusedCalls.Answer.{gives, refused}
use Rattle.track_writer.specs.WriteTrack.{written, cell_count}

-- 8.10, 8.20, 17.8: more than 131,072 cells are refused with 20, and 0 beside it; then a room of fewer bytes than they need is refused with 10,
-- and the bytes needed beside it. Else the number of cells is given
unfoldable pub judged : (cells room : ℕ) → Answer ℕ
judged cells room = cond (ltb 131072 cells) (refused 20 0) (cond (ltb room (bytes_for cells)) (refused 10 (bytes_for cells)) (gives cells))

-- 9.63, 17.8: the answer of the call
abbrev pub write_answer : List ℕ → List ℕ → Answer ℕ
write_answer list buffer = judged (cell_count list) (length buffer)

-- 8.31, 17.9: the lent buffer afterwards: the packed cells at its front, and what follows kept; beside a refusal all of it is kept
abbrev pub written_after : List ℕ → List ℕ → List ℕ
written_after list buffer = buffer_after (write_answer list buffer) (written list) buffer
