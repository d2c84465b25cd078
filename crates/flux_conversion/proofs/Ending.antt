-- What the conversion at the end of a file promises, and that no file gives too many cells for it. Assumes nothing.
use Prim.Native.Nat.{ℕ, ◌≤◌}
use mathlib.Core.Path.{◌≡◌, refl, sym, ◌∙◌}
use mathlib.Core.Bool.{Bool, true, false, cond}
use mathlib.Core.List.{List}
use borrow.Author.Tests.{ltb-false}
use lib.Dec.{ltb}
use lib.ListN.{length}
use Rattle.refusals.specs.RefusedCalls.{Answer, buffer_after}
use Rattle.refusals.specs.RefusedCalls.Answer.{gives, refused}
use Rattle.taken_timings.specs.Timings.{timings_answer}
use Rattle.std.specs.Prelude.{Result, Ok, Err}
use Rattle.taken_timings.specs.declared.Taken.{Taken}
use Rattle.taken_timings.proofs.TimingCells.{never}
use Rattle.track_file.specs.TrackFile.{Content}
use Rattle.flux_reader.specs.declared.FluxReader.{FluxReader}
use Rattle.flux_reader.specs.declared.FluxReader.TheVariants.{PlaceCount, Track, Side, CellCount, FluxCount, Timings, AllTimings, NotATrackFile, Stopped}
use Rattle.flux_file.specs.Portions.{finish_answer}
use Rattle.flux_file.proofs.Filling.{placed-gives}
use Rattle.flux_conversion.specs.Portions.{conversion_of, new_file_of}
use Rattle.flux_conversion.specs.PrivateContracts.{FewCells}

-- what the conversion of a file that gives this answers and leaves
abbrev pub Told : Answer Content → (cells before after : List ℕ) → Answer ℕ → Type 0
Told given cells before after answer =
    (answer ≡ conversion_of given cells (length before)) × (after ≡ buffer_after (conversion_of given cells (length before)) (new_file_of given cells) before)

-- no file gives more than 131,072 cells
few-taken : (taken : Result Taken ℕ) (n : ℕ) → timings_answer taken ≡ gives n → n ≤ 131072
unfolding timings_answer
few-taken (Ok taken) n e = go (ltb 131072 taken.cells) refl e
  where
    go : (x : Bool) → ltb 131072 taken.cells ≡ x → cond x (refused 9 taken.cells) (gives taken.cells) ≡ gives n → n ≤ 131072
    go true a e = never e
    go false a e = let same : n ≡ taken.cells = cc in rw same (ltb-false 131072 taken.cells a)
few-taken (Err index) n e = never e

few-given : (reader : FluxReader) → FewCells (finish_answer reader)
unfolding finish_answer
few-given (PlaceCount number) content e = never e
few-given Track content e = never e
few-given (Side track) content e = never e
few-given (CellCount place number) content e = never e
few-given (FluxCount place number) content e = never e
few-given (Timings place left number taken) content e = never e
few-given (AllTimings place taken) content e = few-taken taken content.cells (placed-gives place.track place.side (timings_answer taken) e)
few-given NotATrackFile content e = never e
few-given (Stopped refusal) content e = never e

pub few-finished : (reader : FluxReader) {answer : Answer Content} → answer ≡ finish_answer reader → FewCells answer
few-finished reader is content e = few-given reader content (sym is ∙ e)
