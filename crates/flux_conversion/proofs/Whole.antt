-- However a file is cut into portions, what the conversion promises is what is said of the whole file. Assumes nothing.
use Prim.Native.Nat.{ℕ, ◌+◌, ◌<◌, ◌≤◌}
use mathlib.Core.Path.{◌≡◌, refl, sym, ◌∙◌, ap, subst}
use mathlib.Core.Bool.{Bool, true, false, cond}
use mathlib.Core.List.{List, [], ◌∷◌, ◌++◌}
use native.Mathlib.Omega.{arith}
use borrow.Author.Tests.{le-ltb, ltb-false}
use lib.Dec.{ltb}
use lib.IntN.{ℤ}
use lib.ListN.{length, take, drop, replicate, length-append, length-drop, length-replicate}
use lib.Seq.{take_at}
use Rattle.basis.specs.Lists.{written_over}
use Rattle.cells.specs.CellsAndBytes.{bytes_for, packed}
use Rattle.cells.proofs.Packing.{length-packed}
use Rattle.refusals.specs.RefusedCalls.{Answer, buffer_after}
use Rattle.refusals.specs.RefusedCalls.Answer.{gives, refused}
use Rattle.flux_timings.specs.Timings.{first_out}
use Rattle.separation.specs.Separation.{cells_of, cells_judged, separation}
use Rattle.separation.specs.Demand3.{Reversal, Tolerable, taken, cells_in_all, refusal_table, Demand3}
use Rattle.separation.proofs.Promise.{demand3}
use Rattle.taken_timings.proofs.Taking.{separation-judged}
use Rattle.taken_timings.proofs.TimingCells.{never}
use Rattle.track_file.specs.Portions.{start_cells, whole_of}
use Rattle.track_file.specs.TrackFile.{Content, track_of, side_of, cell_count, packed_bytes, file_with}
use Rattle.flux_reader.specs.declared.FluxReader.{FluxReader}
use Rattle.flux_file.specs.FluxFile.{flux_section, timings, flux_count, refused_at_once, not_a_flux_file, some_cells, placed, flux_answer, flux_cells, flux_answer_in, flux_buffer}
use Rattle.flux_file.specs.Portions.{start_of, reader_after, cells_after, WholeFluxFile}
use Rattle.flux_file.proofs.Portions.{in-one-portion}
use Rattle.flux_file.proofs.Staged.{length-numbers}
use Rattle.flux_conversion.specs.Conversion.{new_file, in_room, conversion, converted}
use Rattle.flux_conversion.specs.Demand3.{ConversionDemand3}
use Rattle.flux_conversion.specs.Portions.{conversion_of, new_file_of, conversion_in, WholeConversion}
use Rattle.flux_conversion.proofs.Accepted.{accepts, timings-judged}
use Rattle.flux_conversion.proofs.Ending.{Told}
use Rattle.flux_conversion.proofs.Reading.{count-read, cells-read}

-- an answer in a room is accepted only of a file that is accepted
pub room-given : (room : ℕ) (answer : Answer Content) (count : ℕ) → in_room room answer ≡ gives count → (X : Type 0) → ((content : Content) → answer ≡ gives content → X) → X
unfolding in_room
room-given room (gives content) count e X next = next content refl
room-given room (refused number value) count e X next = never e

as-told : {ts buffer : List ℕ} {m n : ℕ} {x y : List ℕ} → m ≡ n → x ≡ y → Demand3 ts (gives n) buffer (written_over y buffer) → Demand3 ts (gives m) buffer (written_over x buffer)
as-told e f d = rw (e, f) d

-- demand 3, from the answer and what it leaves
module _ (file before : List ℕ) {after : List ℕ} {answer : Answer ℕ} (is-answer : answer ≡ conversion (length before) file)
    (is-after : after ≡ buffer_after answer (new_file file) before) where
  abbrev ts : List ℕ
  ts = timings file

  recovered : (content : Content) → flux_answer file ≡ gives content → (count : ℕ) → answer ≡ gives count → (buffer : List ℕ) → bytes_for (cell_count after) ≤ length buffer
      → Demand3 ts (gives (cell_count after)) buffer (written_over (packed_bytes after) buffer)
  unfolding new_file buffer_after cells_judged
  recovered content e count given buffer room =
      let ok = accepts file content e in
      let n = length (cells_of ts) in
      let rest = drop (length (new_file file)) before in
      let few : n < 0x1_0000_0000 = omega (arith, ok.few) in
      let is : after ≡ new_file file ++ rest = is-after ∙ ap (λ (a : Answer ℕ). buffer_after a (new_file file) before) given in
      let count_is : cell_count after ≡ n = ap cell_count is ∙ count-read (track_of file) (side_of file) n (flux_cells file) rest few in
      let cells_are : packed_bytes after ≡ packed (cells_of ts) =
      ap packed_bytes is ∙ cells-read (track_of file) (side_of file) n (flux_cells file) rest few (length-packed (cells_of ts)) in
      let fits : bytes_for n ≤ length buffer = subst (λ (k : ℕ). bytes_for k ≤ length buffer) count_is room in
      let separated : gives n ≡ separation ts (length buffer) =
      sym
      (separation-judged ts ok.flux.some ok.flux.few (length buffer)
      ∙ rw (le-ltb (first_out ts) (length ts) (omega (arith, ok.all)), le-ltb 131072 n ok.few, le-ltb (length buffer) (bytes_for n) fits)) in
      as-told count_is cells_are (demand3 ts buffer separated (ap (λ (x : Answer ℕ). buffer_after x (packed (cells_of ts)) buffer) separated))

  refused-by-table : refused_at_once file ≡ false → not_a_flux_file file ≡ false → (D J : ℕ) → taken D J ≤ 998 → (p q : ℤ) (vs : List Reversal) → Tolerable D J p q vs ts
      → answer ≡ in_room (length before) (placed (track_of file) (side_of file) (some_cells (refusal_table (flux_count file) (cells_in_all vs) 16384)))
  refused-by-table at_once fifteen D J ok p q vs within =
      let zeros = replicate {A = ℕ} 16384 0 in
      let long : length zeros ≡ 16384 = length-replicate {A = ℕ} 16384 0 in
      let table = ((demand3 ts zeros {answer = separation ts (length zeros)} refl refl).recovers D J ok p q vs within).refusal in
      let count = length-numbers (flux_count file) (drop 4 (flux_section file)) in
      is-answer
      ∙ ap (in_room (length before))
      (timings-judged file at_once fifteen
      ∙ ap (λ (a : Answer ℕ). placed (track_of file) (side_of file) (some_cells a))
      (ap (separation ts) (sym long) ∙ table ∙ ap (λ (room : ℕ). refusal_table (length ts) (cells_in_all vs) room) long
      ∙ ap (λ (k : ℕ). refusal_table k (cells_in_all vs) 16384) count))

  pub demanded : ConversionDemand3 file answer before after
  demanded =
      record {
        recovers = λ count given buffer room.
            room-given (length before) (flux_answer file) count (sym is-answer ∙ given) _ (λ content e. recovered content e count given buffer room);
        refusals = refused-by-table;
      }

-- a buffer after two answers that are alike
same_after : (answer : Answer ℕ) (x y before : List ℕ) → ((count : ℕ) → answer ≡ gives count → x ≡ y) → buffer_after answer x before ≡ buffer_after answer y before
unfolding buffer_after
same_after (gives count) x y before same = ap (λ (made : List ℕ). written_over made before) (same count refl)
same_after (refused number value) x y before same = refl

-- the end of a file that was read into `cells` gives what is said of the whole
module _ (cells file : List ℕ) (cell_room room : ℕ) where
  abbrev AsWhole : Answer Content → Answer ℕ → Type 0
  AsWhole given answer = (conversion_of given cells room ≡ answer) × ((count : ℕ) → conversion_of given cells room ≡ gives count → new_file_of given cells ≡ new_file file)

  accepted-whole : (content : Content) → flux_answer file ≡ gives content → 16384 ≤ cell_room → cells ≡ flux_buffer cell_room file → AsWhole (gives content) (in_room room (gives content))
  unfolding conversion_of new_file_of new_file flux_buffer
  accepted-whole content e big filled =
      let ok = accepts file content e in
      let n = length (cells_of (timings file)) in
      let front = flux_cells file in
      let rest : List ℕ = drop (length front) (replicate cell_room 0) in
      let long : length front ≡ bytes_for n = length-packed (cells_of (timings file)) in
      let all : length cells ≡ length front + length rest = ap length filled ∙ length-append front rest in
      let enough : 16384 ≤ length cells =
      omega (arith, all, long, ok.few, length-drop {A = ℕ} (length front) (replicate cell_room 0), length-replicate {A = ℕ} cell_room 0) in (
        rw (le-ltb (length cells) 16384 enough),
        λ count given.
            rw ok.is (ap (file_with (track_of file) (side_of file) n) (ap (take (bytes_for n)) filled ∙ take_at front rest (bytes_for n) long)),
      )

  as-whole : {given : Answer Content} → given ≡ flux_answer_in cell_room file → ((content : Content) → given ≡ gives content → cells ≡ flux_buffer cell_room file)
      → AsWhole given (conversion_in cell_room room file)
  unfolding flux_answer_in conversion_in conversion_of in_room
  as-whole {given} is filled = go (ltb cell_room 16384) refl is
    where
      judged : (answer : Answer Content) → flux_answer file ≡ answer → given ≡ answer → 16384 ≤ cell_room → AsWhole answer (in_room room answer)
      judged (gives content) e f big = accepted-whole content e big (filled content f)
      judged (refused number value) e f big = (refl, λ count g. never g)

      go : (x : Bool) → ltb cell_room 16384 ≡ x → given ≡ cond x (refused 10 16384) (flux_answer file) → AsWhole given (cond x (refused 10 16384) (in_room room (flux_answer file)))
      go true a e = rw e (refl, λ count g. never g)
      go false a e = rw e (judged (flux_answer file) refl e (ltb-false cell_room 16384 a))

-- all that `convert` promises, from the promises of the two calls that it makes
module _ (reader : FluxReader) (cells before after : List ℕ) (given : Answer Content) (answer : Answer ℕ) (finish : WholeFluxFile reader given)
    (told : Told given cells before after answer) where
  whole-conversion : WholeConversion reader cells answer before after
  unfolding conversion_in
  whole-conversion =
      record {
        whole = λ buffer portions same-reader same-cells.
            let file = whole_of portions in
            let end = finish.whole buffer portions same-reader in
            let same = as-whole cells file (length buffer) (length before) end.0 (λ content e. same-cells ∙ end.1 content e) in
            let is = told.0 ∙ same.0 in
            let made : after ≡ buffer_after answer (new_file file) before =
            told.1 ∙ ap (λ (x : Answer ℕ). buffer_after x (new_file_of given cells) before) (sym told.0)
            ∙ same_after answer (new_file_of given cells) (new_file file) before (λ count e. same.1 count (sym told.0 ∙ e)) in (
              is,
              (
                made,
                λ big.
                    demanded file before
                    (is ∙ ap (λ (x : Bool). cond x (refused 10 16384) (conversion (length before) file)) (le-ltb (length buffer) 16384 big)) made,
              ),
            );
      }

  pub told-file : (finished : Answer Content) → given ≡ finished
      → (answer ≡ conversion_of finished cells (length before))
      × ((after ≡ buffer_after (conversion_of finished cells (length before)) (new_file_of finished cells) before) × WholeConversion reader cells answer before after)
  told-file finished e = rw (← e) (told.0, (told.1, whole-conversion))

-- all that `convert_file` promises: the file is one portion
pub one-portion : (room file before : List ℕ) {after : List ℕ} {answer : Answer ℕ} → length room ≡ 16384
    → {start reader : FluxReader} {cleared cells : List ℕ} → (start ≡ start_of (length room)) × (cleared ≡ start_cells room)
    → (reader ≡ reader_after start file) × (cells ≡ cells_after start file cleared) → WholeConversion reader cells answer before after
    → (answer ≡ conversion (length before) file) × ((after ≡ converted file before) × ConversionDemand3 file answer before after)
unfolding conversion_in
one-portion room file before {after} {answer} long started fed whole =
    let one = in-one-portion room file started fed in
    let all = whole.whole room (file ∷ []) one.0 one.1.0 in
    let big : 16384 ≤ length room = omega arith in
    let same = one.1.1 in
    let is : answer ≡ conversion (length before) file =
    all.0 ∙ ap (λ (x : Bool). cond x (refused 10 16384) (conversion (length before) (whole_of (file ∷ [])))) (le-ltb (length room) 16384 big)
    ∙ ap (conversion (length before)) same in (
      is,
      (
        all.1.0 ∙ ap (λ (f : List ℕ). buffer_after answer (new_file f) before) same ∙ ap (λ (x : Answer ℕ). buffer_after x (new_file file) before) is,
        subst (λ (f : List ℕ). ConversionDemand3 f answer before after) same (all.1.1 big),
      ),
    )
