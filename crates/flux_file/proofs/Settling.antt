-- What follows a reader that is stopped changes nothing of what the file gives. Assumes nothing.
use Prim.Native.Nat.{ℕ}
use mathlib.Core.Path.{◌≡◌, sym, ◌∙◌, ap}
use mathlib.Core.Bool.{Bool, true, false, ◌||◌}
use mathlib.Core.List.{List, ◌++◌}
use native.Mathlib.Omega.{arith}
use lib.Dec.{ltb}
use lib.ListN.{length}
use Rattle.refusals.specs.declared.Refusal.{Refusal}
use Rattle.flux_file.specs.FluxFile.{refused_at_once, flux_answer_in}
use Rattle.track_file.specs.Portions.{whole_of}
use Rattle.flux_file.specs.Portions.{start_of, reader_after, reader_through, is_stopped, finish_answer, AtOnce}
use Rattle.flux_reader.specs.declared.FluxReader.{FluxReader}
use Rattle.flux_reader.specs.declared.FluxReader.TheVariants.{PlaceCount, Track, Side, CellCount, FluxCount, Timings, AllTimings, NotATrackFile, Stopped}
use Rattle.flux_file.proofs.Endings.{reader-stays}
use Rattle.flux_file.proofs.Portions.{reader-cut, reader-joined}
use Rattle.flux_file.proofs.Whole.{whole-answer}
use Rattle.flux_file.proofs.Stopping.{from_start}

-- after a reader that is stopped nothing matters
same_answer : (room : ℕ) (file : List ℕ) (refusal : Refusal) → reader_after (start_of room) file ≡ Stopped refusal → (rest : List ℕ)
    → flux_answer_in room (file ++ rest) ≡ flux_answer_in room file
same_answer room file refusal is rest =
    let start = start_of room in
    let still : reader_after start (file ++ rest) ≡ reader_after start file = reader-cut start file rest ∙ ap (λ (s : FluxReader). reader_after s rest) is ∙ reader-stays refusal rest ∙ sym is in
    sym (whole-answer room (file ++ rest)) ∙ ap finish_answer still ∙ whole-answer room file

differ : {X : Type 0} → false ≡ true → X
differ t = let z : ◌≡◌ {A = ℕ} 0 1 = cc in let y : ⊥ = omega arith in absurd y

-- whether the refusal is given is what the bytes so far say
exactly-at-once : (reader : FluxReader) {answer : Bool} → answer ≡ is_stopped reader → (buffer : List ℕ) (portions : List (List ℕ)) → reader ≡ reader_through buffer portions
    → answer ≡ (ltb (length buffer) 16384 || refused_at_once (whole_of portions))
exactly-at-once reader e buffer portions is =
    e ∙ ap is_stopped (is ∙ reader-joined (start_of (length buffer)) portions) ∙ from_start (length buffer) (whole_of portions)

-- all that `stopped` promises
settled-after : (reader : FluxReader) → is_stopped reader ≡ true → (buffer : List ℕ) (portions : List (List ℕ)) → reader ≡ reader_through buffer portions
    → (rest : List ℕ) → flux_answer_in (length buffer) (whole_of portions ++ rest) ≡ flux_answer_in (length buffer) (whole_of portions)
unfolding is_stopped
settled-after (Stopped refusal) e buffer portions through rest =
    same_answer (length buffer) (whole_of portions) refusal (sym (reader-joined (start_of (length buffer)) portions) ∙ sym through) rest
settled-after (PlaceCount number) e buffer portions through rest = differ e
settled-after Track e buffer portions through rest = differ e
settled-after (Side track) e buffer portions through rest = differ e
settled-after (CellCount place number) e buffer portions through rest = differ e
settled-after (FluxCount place number) e buffer portions through rest = differ e
settled-after (Timings place left number taken) e buffer portions through rest = differ e
settled-after (AllTimings place taken) e buffer portions through rest = differ e
settled-after NotATrackFile e buffer portions through rest = differ e

pub at_once : (reader : FluxReader) {answer : Bool} → answer ≡ is_stopped reader → AtOnce reader answer
at_once reader is = record { exactly = exactly-at-once reader is; settled = λ t. settled-after reader (sym is ∙ t) }
