-- However a file is cut into portions, what `finish` promises is what is said of the whole file. Assumes nothing.
use Prim.Native.Nat.{ℕ}
use mathlib.Core.Path.{◌≡◌, refl, sym, ◌∙◌, ap}
use mathlib.Core.Bool.{Bool, true, false, cond}
use mathlib.Core.List.{List}
use borrow.Author.Tests.{ltb-false, ne_eqb}
use lib.Dec.{ltb}
use lib.ListN.{length, replicate}
use Rattle.basis.specs.Lists.{written_over}
use Rattle.refusals.specs.RefusedCalls.{Answer, answer_of}
use Rattle.refusals.specs.RefusedCalls.Answer.{gives, refused}
use Rattle.refusals.specs.declared.Refusal.{Refusal}
use Rattle.refusals.specs.declared.Refusal.TheVariants.{NoRoom}
use Rattle.std.specs.Prelude.{Result, Ok}
use Rattle.taken_timings.specs.Timings.{timings_answer}
use Rattle.taken_timings.specs.declared.Taken.{Taken}
use Rattle.file_reader.specs.declared.Place.{Place}
use Rattle.track_file.specs.TrackFile.{Content}
use Rattle.flux_file.specs.FluxFile.{some_cells, placed, flux_answer, flux_cells, flux_answer_in, flux_buffer}
use Rattle.track_file.specs.Portions.{start_cells, whole_of}
use Rattle.flux_file.specs.Portions.{start_of, cells_after, finish_answer, WholeFluxFile}
use Rattle.file_reader.specs.declared.Number.TheVariants.{Empty}
use Rattle.flux_reader.specs.declared.FluxReader.{FluxReader}
use Rattle.flux_reader.specs.declared.FluxReader.TheVariants.{PlaceCount, AllTimings, Stopped}
use Rattle.flux_file.proofs.Portions.{reader-joined, cells-joined}
use Rattle.taken_timings.proofs.TimingCells.{never}
use Rattle.flux_file.proofs.Staged.{ends, ends-stopped}
use Rattle.flux_file.proofs.Judged.{file-answer}
use Rattle.flux_file.proofs.Filling.{file-filled}

-- the answer
pub whole-answer : (room : ℕ) (file : List ℕ) → ends (start_of room) file ≡ flux_answer_in room file
unfolding start_of flux_answer_in
whole-answer room file = go (ltb room 16384)
  where
    go : (x : Bool) → ends (cond x (Stopped (NoRoom 16384)) (PlaceCount Empty)) file ≡ cond x (refused 10 16384) (flux_answer file)
    go true = ends-stopped (NoRoom 16384) file
    go false = file-answer file

-- and what is left in the buffer, where it is accepted
pub whole-buffer : (buffer file : List ℕ) (content : Content) → ends (start_of (length buffer)) file ≡ gives content
    → cells_after (start_of (length buffer)) file (start_cells buffer) ≡ flux_buffer (length buffer) file
unfolding start_of start_cells flux_buffer
whole-buffer buffer file content = go (ltb (length buffer) 16384) refl
  where
    go : (x : Bool) → ltb (length buffer) 16384 ≡ x → ends (cond x (Stopped (NoRoom 16384)) (PlaceCount Empty)) file ≡ gives content
        → cells_after (cond x (Stopped (NoRoom 16384)) (PlaceCount Empty)) file (cond x buffer (replicate (length buffer) 0))
        ≡ written_over (flux_cells file) (replicate (length buffer) 0)
    go true e accepted = never (sym (ends-stopped (NoRoom 16384) file) ∙ accepted)
    go false e accepted = file-filled (length buffer) (ltb-false (length buffer) 16384 e) content file accepted

-- timings that give some cells
pub given-timings : (reader : FluxReader) {place : Place} {taken : Result Taken ℕ} {counted : Result ℕ Refusal} {count : ℕ} → reader ≡ AllTimings place taken
    → answer_of counted ≡ timings_answer taken → counted ≡ Ok count → (count ≡ 0 → ⊥)
    → gives (record { track = place.track; side = place.side; cells = count }) ≡ finish_answer reader
unfolding finish_answer placed some_cells
given-timings reader {count = count} e is ok some = rw (e, ← is, ok, ne_eqb count 0 some)

-- what `finish` promises of the whole file, from its answer
pub whole_of_answer : (reader : FluxReader) {answer : Answer Content} → answer ≡ finish_answer reader → WholeFluxFile reader answer
whole_of_answer reader is-answer =
    record {
      whole = λ buffer portions is-reader.
          let start = start_of (length buffer) in
          let ended = is-answer ∙ ap finish_answer (is-reader ∙ reader-joined start portions) in (
            ended ∙ whole-answer (length buffer) (whole_of portions),
            λ content accepted.
                cells-joined start portions (start_cells buffer)
                ∙ whole-buffer buffer (whole_of portions) content (sym ended ∙ accepted),
          );
    }
