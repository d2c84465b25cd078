-- The image of a whole file follows from what its end gives. Assumes nothing.
use Prim.Native.Nat.{ℕ}
use mathlib.Core.Path.{◌≡◌, refl, sym, ap, ◌∙◌}
use mathlib.Core.List.{List}
use lib.ListN.{length}
use Rattle.refusals.specs.RefusedCalls.{Answer, buffer_after}
use Rattle.refusals.specs.RefusedCalls.Answer.{gives, refused}
use Rattle.track_file.specs.Portions.{whole_of, WholeFile}
use Rattle.track_file.specs.TrackFile.{Content, file_buffer}
use Rattle.file_reader.specs.declared.Reader.{Reader}
use Rattle.file_image.specs.ImageOfFile.{image_given, image_bytes, file_image_answer, file_image, WholeImage}

-- what a call answers and leaves, of a file that gives this
abbrev pub Told : Answer Content → (cells before after : List ℕ) → Answer ℕ → Type 0
Told given cells before after answer =
    (answer ≡ image_given given cells (length before)) × (after ≡ buffer_after (image_given given cells (length before)) (image_bytes given cells) before)

-- the image of a file depends on its cells only where it is accepted
same-image : (given : Answer Content) (cells other : List ℕ) (room : ℕ) → ((content : Content) → given ≡ gives content → cells ≡ other)
    → (image_given given cells room ≡ image_given given other room) × (image_bytes given cells ≡ image_bytes given other)
unfolding image_given image_bytes
same-image (gives content) cells other room same = rw (same content refl) (refl, refl)
same-image (refused number value) cells other room same = (refl, refl)

-- all that `image_file` promises, from the promises of the two calls that it makes
module _ (reader : Reader) (cells before after : List ℕ) (given : Answer Content) (answer : Answer ℕ) (file : WholeFile reader given)
    (told : Told given cells before after answer) where
  whole-image : WholeImage reader cells answer before after
  unfolding file_image_answer file_image
  whole-image =
      record {
        whole = λ buffer portions same-reader same-cells.
            let whole = file.whole buffer portions same-reader in
            let same = same-image given cells (file_buffer (length buffer) (whole_of portions)) (length before) (λ content accepted. same-cells ∙ whole.1 content accepted) in (
              told.0 ∙ same.0 ∙ ap (λ (x : Answer Content). image_given x (file_buffer (length buffer) (whole_of portions)) (length before)) whole.0,
              told.1
                  ∙ ap (λ (x : Answer ℕ). buffer_after x (image_bytes given cells) before) (sym told.0)
                  ∙ ap (λ (x : List ℕ). buffer_after answer x before)
                  (same.1 ∙ ap (λ (x : Answer Content). image_bytes x (file_buffer (length buffer) (whole_of portions))) whole.0),
            );
      }

  pub told-file : (finished : Answer Content) → given ≡ finished
      → (answer ≡ image_given finished cells (length before))
      × ((after ≡ buffer_after (image_given finished cells (length before)) (image_bytes finished cells) before) × WholeImage reader cells answer before after)
  told-file finished e = rw (← e) (told.0, (told.1, whole-image))
