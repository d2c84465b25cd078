-- What is written of an input, from the reads that led to its end. Assumes nothing.
use Prim.Native.Nat.{ℕ, ◌+◌, ◌≤◌, ◌<◌}
use mathlib.Core.Path.{◌≡◌, refl, sym, ◌∙◌, ap}
use mathlib.Core.Bool.{Bool, true, false, cond}
use mathlib.Core.List.{List, [], ◌++◌}
use mathlib.Core.Logic.{◌⊎◌, inl, inr}
use native.Mathlib.Omega.{arith}
use borrow.Author.Tests.{le-ltb}
use lib.Dec.{ltb}
use lib.ListN.{length, take, drop}
use lib.Seq.{take_all, take_at}
use Rattle.lines.specs.Lines.{refused_line, out_after}
use Rattle.lines.proofs.Lengths.{refused-few}
use Rattle.cells.specs.CellsAndBytes.{bytes_for}
use Rattle.cells.proofs.Packing.{length-packed}
use Rattle.separation.specs.Separation.{cells_of}
use Rattle.refusals.specs.RefusedCalls.{Answer, number_of, value_of, answer_of, buffer_after}
use Rattle.refusals.specs.RefusedCalls.Answer.{gives, refused}
use Rattle.std.specs.Prelude.{Result, Ok, Err}
use Rattle.refusals.specs.declared.Refusal.{Refusal}
use Rattle.taken_timings.proofs.TimingCells.{never}
use Rattle.track_file.specs.Portions.{start_cells, whole_of}
use Rattle.track_file.specs.TrackFile.{Content, track_of, side_of}
use Rattle.track_input.specs.Formats.{flux_file_steps}
use Rattle.track_input.specs.Reading.{portions_of, ReadThrough}
use Rattle.flux_reader.specs.declared.FluxReader.{FluxReader}
use Rattle.flux_file.specs.FluxFile.{timings, flux_answer, flux_cells}
use Rattle.flux_file.specs.Portions.{start_of}
use Rattle.flux_conversion.specs.Conversion.{new_file, new_length, in_room, conversion}
use Rattle.flux_conversion.specs.Portions.{conversion_of, conversion_in, WholeConversion}
use Rattle.flux_conversion.proofs.Accepted.{accepts}
use Rattle.flux_conversion.proofs.Reading.{long-file}
use Rattle.track_input.specs.declared.Input.{Input}
use Rattle.track_input.specs.declared.Input.TheVariants.{Open, Ended, Failed}
use Rattle.track_input.proofs.FluxFiles.{all-from-start, reader-from-start, cells-from-start}
use Rattle.flux_to_cells.specs.OutputOfInput.{output_of, output_of_input, ConvertedInput}

-- a new file has some bytes
some-bytes : (b c : Bool) (k v l w m : ℕ) {n : ℕ} → ◌≡◌ {A = Answer ℕ} (gives n) (cond b (refused k v) (cond c (refused l w) (gives (14 + m)))) → 0 < n
some-bytes true c k v l w m e = let z : ◌≡◌ {A = ℕ} 0 1 = cc in absurd (omega arith)
some-bytes false true k v l w m e = let z : ◌≡◌ {A = ℕ} 0 1 = cc in absurd (omega arith)
some-bytes false false k v l w m {n} e = let s : n ≡ 14 + m = cc in omega (arith, s)

-- where a conversion gives a number of bytes, it is not 0
pub some_converted : (given : Answer Content) (cells : List ℕ) (room : ℕ) {n : ℕ} → gives n ≡ conversion_of given cells room → 0 < n
unfolding conversion_of in_room
some_converted (gives content) cells room e =
    some-bytes (ltb (length cells) 16384) (ltb room (new_length content.cells)) 10 16384 10 (new_length content.cells) (bytes_for content.cells) e
some_converted (refused number value) cells room e = let z : ◌≡◌ {A = ℕ} 0 1 = cc in absurd (omega arith)

-- so many bytes stand at the front of `out`
record AtFront (made : List ℕ) (n : ℕ) (out : List ℕ) : Type 0 where
  within : n ≤ length out
  count_is : n ≡ length made
  front_is : take n out ≡ made

-- a file with room for its new file
module _ (file : List ℕ) where
  room-for-all : (content : Content) → flux_answer file ≡ gives content
      → (in_room 65536 (gives content) ≡ gives (length (new_file file))) × (length (new_file file) ≤ 65536)
  unfolding in_room new_file
  room-for-all content e =
      let ok = accepts file content e in
      let few = ok.few in
      let count = length (cells_of (timings file)) in
      let cells : content.cells ≡ count = ap (λ (c : Content). c.cells) ok.is in
      let fits : new_length content.cells ≤ 65536 = omega (arith, cells, few) in
      let long = long-file (track_of file) (side_of file) count (flux_cells file) (length-packed (cells_of (timings file))) in
      (rw (le-ltb 65536 (new_length content.cells) fits) (ap gives (ap new_length cells ∙ sym long)), omega (arith, few, long))

  same-value : {m n : ℕ} → ◌≡◌ {A = Answer ℕ} (gives m) (gives n) → m ≡ n
  same-value e = cc

  same_number : {number value other beside : ℕ} → ◌≡◌ {A = Answer ℕ} (refused number value) (refused other beside) → other ≡ number
  same_number e = sym (cc)

  given-file : (n : ℕ) → gives n ≡ conversion 65536 file
      → (output_of (flux_answer file) file ≡ new_file file) × ((n ≡ length (new_file file)) × (n ≤ 65536))
  unfolding output_of in_room
  given-file n = go (flux_answer file) refl
    where
      go : (answer : Answer Content) → flux_answer file ≡ answer → gives n ≡ in_room 65536 answer
          → (output_of answer file ≡ new_file file) × ((n ≡ length (new_file file)) × (n ≤ 65536))
      go (gives content) e given =
          let room = room-for-all content e in
          let same = same-value (given ∙ room.0) in
          (refl, (same, omega (arith, same, room.1)))
      go (refused number value) e given = never (sym given)

  refused-file : (number value : ℕ) → refused number value ≡ conversion 65536 file → output_of (flux_answer file) file ≡ refused_line number
  unfolding output_of in_room
  refused-file number value = go (flux_answer file) refl
    where
      go : (answer : Answer Content) → flux_answer file ≡ answer → refused number value ≡ in_room 65536 answer → output_of answer file ≡ refused_line number
      go (gives content) e given = never (given ∙ (room-for-all content e).0)
      go (refused other beside) e given = ap refused_line (same_number given)

module _ (buffer : List ℕ) (long : length buffer ≡ 16384) {first : FluxReader} {cleared : List ℕ}
    (started : (first ≡ start_of (length buffer)) × (cleared ≡ start_cells buffer)) {input : Input FluxReader} {cells : List ℕ}
    (through : ReadThrough flux_file_steps first cleared input cells) where
  converted : (made : List ℕ) → output_of_input input through.reads ≡ made → {n : ℕ} {out : List ℕ} → AtFront made n out → ConvertedInput n out
  converted made e {n} {out} front =
      record {
        reads = through.reads;
        last = input;
        all = rw long at (all-from-start buffer started through);
        within = front.within;
        count_is = front.count_is ∙ ap length (sym e);
        front_is = front.front_is ∙ sym e;
      }

  nothing : (out : List ℕ) → AtFront [] 0 out
  nothing out = record { within = omega arith; count_is = refl; front_is = refl }

  pub not_ended : (out : List ℕ) → ((reader : FluxReader) × (input ≡ Open reader)) ⊎ (input ≡ Failed) → ConvertedInput 0 out
  unfolding output_of_input
  not_ended out (inl (reader, e)) = converted [] (rw e) (nothing out)
  not_ended out (inr e) = converted [] (rw e) (nothing out)

  module _ (before : List ℕ) (room : length before ≡ 65536) {reader : FluxReader} (ended : input ≡ Ended reader) (answer : Result ℕ Refusal) {made : List ℕ}
      (whole : WholeConversion reader cells (answer_of answer) before made) where
    abbrev file : List ℕ
    file = whole_of (portions_of through.reads)

    told : (answer_of answer ≡ conversion 65536 file) × (made ≡ buffer_after (answer_of answer) (new_file file) before)
    unfolding conversion_in
    told =
        let all = whole.whole buffer (portions_of through.reads) (reader-from-start buffer started through ended) (cells-from-start buffer started through) in
        (rw (long, room) at all.0, all.1.0)

    of-file : output_of_input input through.reads ≡ output_of (flux_answer file) file
    unfolding output_of_input
    of-file = rw ended

    pub has-file : {n : ℕ} → answer ≡ Ok n → length made ≡ 65536 → ConvertedInput n made
    unfolding buffer_after
    has-file {n} e same =
        let given = rw e at told in
        let new = given-file file n given.0 in
        let size = new.1.0 in
        converted (new_file file) (of-file ∙ new.0)
        record {
          within = omega (arith, new.1.1, same);
          count_is = size;
          front_is =
              ap (λ (k : ℕ). take k made) size ∙ ap (take (length (new_file file))) given.1
              ∙ take_at (new_file file) (drop (length (new_file file)) before) (length (new_file file)) refl;
        }

    pub is-refused : {refusal : Refusal} {number n : ℕ} {out : List ℕ} → answer ≡ Err refusal → number ≡ number_of refusal → number < 0x1_0000_0000
        → (n ≡ length (refused_line number)) × (out ≡ out_after (refused_line number) made) → length made ≡ 65536 → length out ≡ length made → ConvertedInput n out
    is-refused {refusal} {number} {n} {out} e is fits line same after =
        let given = rw e at told in
        let text = refused_line number in
        let few = refused-few number fits in
        let all : take (length made) text ≡ text = take_all (length made) text (omega arith) in
        let written : out ≡ text ++ drop (length text) made = line.1 ∙ ap (λ (l : List ℕ). l ++ drop (length l) made) all in
        converted text (of-file ∙ refused-file file (number_of refusal) (value_of refusal) given.0 ∙ ap refused_line (sym is))
        record {
          within = omega (arith, line.0);
          count_is = line.0;
          front_is = ap (λ (k : ℕ). take k out) line.0 ∙ ap (take (length text)) written ∙ take_at text (drop (length text) made) (length text) refl;
        }
