-- However a file is cut into portions, what `finish` promises is what is said of the whole file. Assumes nothing.
use Prim.Native.Nat.{ℕ}
use mathlib.Core.Path.{◌≡◌, refl, sym, ◌∙◌, ap}
use mathlib.Core.Bool.{Bool, true, false, cond}
use mathlib.Core.List.{List}
use borrow.Author.Tests.{ltb-false}
use lib.Dec.{ltb}
use lib.ListN.{length, replicate}
use Rattle.basis.specs.Lists.{written_over}
use Rattle.refusals.specs.RefusedCalls.{Answer}
use Rattle.refusals.specs.RefusedCalls.Answer.{gives, refused}
use Rattle.refusals.specs.declared.Refusal.TheVariants.{NoRoom}
use Rattle.track_file.specs.TrackFile.{Content, file_answer, packed_bytes, file_answer_in, file_buffer}
use Rattle.track_file.specs.Portions.{start_of, start_cells, cells_after, whole_of, finish_answer, WholeFile}
use Rattle.file_reader.specs.declared.Number.TheVariants.{Empty}
use Rattle.file_reader.specs.declared.Reader.{Reader}
use Rattle.file_reader.specs.declared.Reader.TheVariants.{PlaceCount, Stopped}
use Rattle.track_file.proofs.Portions.{reader-joined, cells-joined}
use Rattle.track_file.proofs.Staged.{never, ends, ends-stopped}
use Rattle.track_file.proofs.Judged.{file-answer}
use Rattle.track_file.proofs.Filling.{file-filled}

-- the answer
pub whole-answer : (room : ℕ) (file : List ℕ) → ends (start_of room) file ≡ file_answer_in room file
unfolding start_of file_answer_in
whole-answer room file = go (ltb room 16384)
  where
    go : (x : Bool) → ends (cond x (Stopped (NoRoom 16384)) (PlaceCount Empty)) file ≡ cond x (refused 10 16384) (file_answer file)
    go true = ends-stopped (NoRoom 16384) file
    go false = file-answer file

-- and what is left in the buffer, where it is accepted
pub whole-buffer : (buffer file : List ℕ) (content : Content) → ends (start_of (length buffer)) file ≡ gives content
    → cells_after (start_of (length buffer)) file (start_cells buffer) ≡ file_buffer (length buffer) file
unfolding start_of start_cells file_buffer
whole-buffer buffer file content = go (ltb (length buffer) 16384) refl
  where
    go : (x : Bool) → ltb (length buffer) 16384 ≡ x → ends (cond x (Stopped (NoRoom 16384)) (PlaceCount Empty)) file ≡ gives content
        → cells_after (cond x (Stopped (NoRoom 16384)) (PlaceCount Empty)) file (cond x buffer (replicate (length buffer) 0))
        ≡ written_over (packed_bytes file) (replicate (length buffer) 0)
    go true e accepted = never (sym (ends-stopped (NoRoom 16384) file) ∙ accepted)
    go false e accepted = file-filled (length buffer) (ltb-false (length buffer) 16384 e) content file accepted

-- what `finish` promises of the whole file, from its answer
pub whole_of_answer : (reader : Reader) {answer : Answer Content} → answer ≡ finish_answer reader → WholeFile reader answer
whole_of_answer reader is-answer =
    record {
      whole = λ buffer portions is-reader.
          let start = start_of (length buffer) in
          let ended = is-answer ∙ ap finish_answer (is-reader ∙ reader-joined start portions) in (
            ended ∙ whole-answer (length buffer) (whole_of portions),
            λ content accepted.
                cells-joined start portions (start_cells buffer)
                ∙ whole-buffer buffer (whole_of portions) content (sym ended ∙ accepted),
          );
    }
