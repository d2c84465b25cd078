-- The listing of a whole file follows from what its end gives. Assumes nothing.
use Prim.Native.Nat.{ℕ, ◌≤◌}
use mathlib.Core.Path.{◌≡◌, refl, ap, ◌∙◌}
use mathlib.Core.List.{List, [], ◌∷◌}
use lib.ListN.{length}
use Rattle.lines.specs.Lines.{out_after}
use Rattle.file_listing.specs.ListingOfFile.{printed_file, file_listing, WholeListing}
use Rattle.refusals.specs.RefusedCalls.{Answer}
use Rattle.refusals.specs.RefusedCalls.Answer.{gives, refused}
use Rattle.track_file.specs.Portions.{start_of, start_cells, reader_after, cells_after, reader_through, cells_through, whole_of, WholeFile}
use Rattle.track_file.specs.TrackFile.{Content, file_buffer}
use Rattle.file_reader.specs.declared.Reader.{Reader}
use Rattle.track_file.proofs.Portions.{in-one-portion}

-- what a writer answers and leaves, of the bytes `made`
abbrev pub Told : (made before after : List ℕ) → ℕ → Type 0
Told made before after r = (r ≡ length made) × ((r ≤ 65536) × (after ≡ out_after made before))

-- what is printed of a file depends on its cells only where it is accepted
same-printed : (answer : Answer Content) (cells other : List ℕ)
    → ((content : Content) → answer ≡ gives content → cells ≡ other) → printed_file answer cells ≡ printed_file answer other
unfolding printed_file
same-printed (gives content) cells other same = rw (same content refl)
same-printed (refused number value) cells other same = refl

-- all that `list_file` promises, from the promises of the two calls that it makes
module _ (reader : Reader) (cells before after : List ℕ) (answer : Answer Content) (r : ℕ) (file : WholeFile reader answer)
    (told : Told (printed_file answer cells) before after r) where
  printed-whole : (buffer : List ℕ) (portions : List (List ℕ)) → reader ≡ reader_through buffer portions → cells ≡ cells_through buffer portions
      → printed_file answer cells ≡ file_listing (length buffer) (whole_of portions)
  unfolding file_listing
  printed-whole buffer portions same-reader same-cells =
      let whole = file.whole buffer portions same-reader in
      let file-cells = file_buffer (length buffer) (whole_of portions) in
      same-printed answer cells file-cells (λ content accepted. same-cells ∙ whole.1 content accepted)
      ∙ ap (λ (x : Answer Content). printed_file x file-cells) whole.0

  whole-listing : WholeListing reader cells r before after
  whole-listing =
      record {
        whole = λ buffer portions same-reader same-cells.
            rw (← printed-whole buffer portions same-reader same-cells) (told.0, told.1.1);
      }

  pub told-file : (finished : Answer Content) → answer ≡ finished
      → (r ≡ length (printed_file finished cells)) × ((r ≤ 65536) × ((after ≡ out_after (printed_file finished cells) before) × WholeListing reader cells r before after))
  told-file finished answered = rw (← answered) (told.0, (told.1.0, (told.1.1, whole-listing)))

-- all that `list_whole_file` promises: the file is one portion
pub told-whole : (buffer file : List ℕ) → length buffer ≡ 16384 → {start reader : Reader} {cleared cells before after : List ℕ} {r : ℕ}
    → (start ≡ start_of (length buffer)) × (cleared ≡ start_cells buffer) → (reader ≡ reader_after start file) × (cells ≡ cells_after start file cleared)
    → r ≤ 65536 → WholeListing reader cells r before after → Told (file_listing 16384 file) before after r
told-whole buffer file long started fed few listing =
    let one = in-one-portion buffer file started fed in
    let whole = rw (one.1.1, long) at (listing.whole buffer (file ∷ []) one.0 one.1.0) in
    (whole.0, (few, whole.1))
