-- What is written of an input, from the reads that led to its end. Assumes nothing.
use Prim.Native.Nat.{ℕ, ◌≤◌, ◌<◌}
use mathlib.Core.Path.{◌≡◌, refl, sym, ◌∙◌, ap, subst}
use mathlib.Core.Bool.{Bool, true, false}
use mathlib.Core.List.{List, []}
use mathlib.Core.Logic.{◌⊎◌, inl, inr}
use native.Mathlib.Omega.{arith}
use lib.Dec.{eqb}
use lib.ListN.{length, take, drop}
use lib.Seq.{take_all, take_at}
use Rattle.basis.specs.Lists.{written_over}
use Rattle.lines.specs.Lines.{bytes_of, refused_line, out_after}
use Rattle.lines.proofs.Lengths.{refused-few}
use Rattle.refusals.specs.RefusedCalls.{Answer, number_of, value_of, answer_of, buffer_after}
use Rattle.refusals.specs.RefusedCalls.Answer.{gives, refused}
use Rattle.std.specs.Prelude.{Result, Ok, Err}
use Rattle.refusals.specs.declared.Refusal.{Refusal}
use Rattle.refusals.specs.declared.Refusal.TheVariants.{NoPlainImage}
use Rattle.track_file.specs.Portions.{start_of, start_cells, whole_of}
use Rattle.file_reader.specs.declared.Reader.{Reader}
use Rattle.track_input.specs.declared.Input.{Input}
use Rattle.track_input.specs.declared.Input.TheVariants.{Open, Ended, Failed}
use Rattle.track_input.specs.Formats.{track_file_steps}
use Rattle.track_input.specs.Reading.{portions_of, ReadThrough}
use Rattle.track_input.proofs.TrackFiles.{all-from-start, reader-from-start, cells-from-start}
use Rattle.file_image.specs.ImageOfFile.{file_image_answer, file_image, WholeImage}
use Rattle.file_image.proofs.Length.{image-long, same-in-room}
use Rattle.st_track.specs.ImageOfInput.{Outputs, number_line, refusal_line, unreadable_line, outputs_of, image_of_file, outputs_of_input, AtFront, ImagedInput}

-- a line that is written to a buffer with room for it stands at its front
at_front : (made before : List ℕ) {out : List ℕ} {n : ℕ} → length made ≤ length before → n ≡ length made → out ≡ out_after made before → AtFront made n out
at_front made before h e o =
    record {
      count_is = e;
      front_is = rw (e, o, take_all (length before) made h) (take_at made (drop (length made) before) (length made) refl);
    }

nothing : (out : List ℕ) → AtFront [] 0 out
nothing out = record { count_is = refl; front_is = refl }

-- what a line's writer answers and leaves
abbrev Line : (made before out : List ℕ) → ℕ → Type 0
Line made before out n = (n ≡ length made) × ((n ≤ 20) × (out ≡ out_after made before))

-- only one refusal has the number 24
not_24 : (refusal : Refusal) → ((number : ℕ) → refusal ≡ NoPlainImage number → ⊥) → eqb (number_of refusal) 24 ≡ false
not_24 refusal h = grind arith

pub other-line : (refusal : Refusal) → ((number : ℕ) → refusal ≡ NoPlainImage number → ⊥) → refusal_line (number_of refusal) (value_of refusal) ≡ refused_line (number_of refusal)
unfolding refusal_line
other-line refusal h = rw (not_24 refusal h)

-- the image of a file, or its refusal
imaged-file : (file : List ℕ) (n : ℕ) → gives n ≡ file_image_answer 16384 65536 file → image_of_file file ≡ record { output = file_image 16384 file; message = [] }
unfolding image_of_file outputs_of
imaged-file file n e = rw (← same-in-room 16384 file, ← e)

refused-file : (file : List ℕ) (number value : ℕ) → refused number value ≡ file_image_answer 16384 65536 file
    → image_of_file file ≡ record { output = []; message = refusal_line number value }
unfolding image_of_file outputs_of
refused-file file number value e = rw (← same-in-room 16384 file, ← e)

module _ (buffer : List ℕ) (long : length buffer ≡ 16384) {first : Reader} {cleared : List ℕ}
    (started : (first ≡ start_of (length buffer)) × (cleared ≡ start_cells buffer)) {input : Input Reader} {cells : List ℕ}
    (through : ReadThrough track_file_steps first cleared input cells) where
  abbrev Promised : (output message : ℕ) (out : List ℕ) → Type 0
  Promised output message out = record { few_output : output ≤ 65536; few_message : message ≤ 65536; image : ImagedInput output message out }

  imaged : (outputs : Outputs) → outputs_of_input input through.reads ≡ outputs → {output message : ℕ} {out : List ℕ} → AtFront outputs.output output out
      → AtFront outputs.message message out → ImagedInput output message out
  imaged outputs e {output} {message} {out} o m =
      record {
        reads = through.reads;
        last = input;
        all = rw long at (all-from-start buffer started through);
        output_is = subst (λ (x : Outputs). AtFront x.output output out) (sym e) o;
        message_is = subst (λ (x : Outputs). AtFront x.message message out) (sym e) m;
      }

  abbrev file : List ℕ
  file = whole_of (portions_of through.reads)

  module _ (before : List ℕ) (room : length before ≡ 65536) where
    -- the input cannot be read to its end
    module _ {n : ℕ} {out : List ℕ} (line : (n ≡ 46) × (out ≡ out_after unreadable_line before)) where
      unreadable : outputs_of_input input through.reads ≡ record { output = []; message = unreadable_line } → Promised 0 n out
      unfolding unreadable_line bytes_of
      unreadable e =
          record {
            few_output = omega arith;
            few_message = omega (arith, line.0);
            image = imaged _ e (nothing out) (at_front unreadable_line before (omega (arith, room)) line.0 line.1);
          }

      pub not_ended : ((reader : Reader) × (input ≡ Open reader)) ⊎ (input ≡ Failed) → Promised 0 n out
      unfolding outputs_of_input
      not_ended (inl (reader, e)) = unreadable (rw e)
      not_ended (inr e) = unreadable (rw e)

    module _ {reader : Reader} (ended : input ≡ Ended reader) (answer : Result ℕ Refusal) {made : List ℕ} (whole : WholeImage reader cells (answer_of answer) before made) where
      told : (answer_of answer ≡ file_image_answer 16384 65536 file) × (made ≡ buffer_after (answer_of answer) (file_image 16384 file) before)
      told =
          rw (long, room)
          at (whole.whole buffer (portions_of through.reads) (reader-from-start buffer started through ended) (cells-from-start buffer started through))

      of-file : outputs_of_input input through.reads ≡ image_of_file file
      unfolding outputs_of_input
      of-file = rw ended

      pub has-image : {n : ℕ} → answer ≡ Ok n → Promised n 0 made
      unfolding buffer_after
      has-image {n} e =
          let given = rw e at told in
          let long = image-long 16384 65536 n file (sym given.0) in
          let image = file_image 16384 file in
          record {
            few_output = omega (arith, long.0);
            few_message = omega arith;
            image =
                imaged _ (of-file ∙ imaged-file file n given.0)
                record {
                  count_is = long.0 ∙ sym long.1;
                  front_is = rw (given.1, long.0, ← long.1) (take_at image (drop (length image) before) (length image) refl);
                }
                (nothing made);
          }

      pub is-refused : {refusal : Refusal} {n : ℕ} {out : List ℕ} → answer ≡ Err refusal
          → Line (refusal_line (number_of refusal) (value_of refusal)) made out n → length made ≡ 65536 → Promised 0 n out
      is-refused {refusal} {n} {out} e line same =
          let given = rw e at told in
          record {
            few_output = omega arith;
            few_message = omega (arith, line.1.0);
            image =
                imaged _ (of-file ∙ refused-file file (number_of refusal) (value_of refusal) given.0) (nothing out)
                (at_front (refusal_line (number_of refusal) (value_of refusal)) made (omega (arith, same, line.0, line.1.0)) line.0 line.1.1);
          }
