-- The listing of an input, from the reads that led to its end. Assumes nothing.
use Prim.Native.Nat.{ℕ, ◌≤◌}
use mathlib.Core.Path.{◌≡◌, ◌∙◌, ap, subst}
use mathlib.Core.List.{List}
use mathlib.Core.Logic.{◌⊎◌, inl, inr}
use lib.ListN.{length, take}
use Rattle.lines.specs.Lines.{out_after}
use Rattle.listing.proofs.Laws.{front-in-room}
use Rattle.file_listing.specs.ListingOfFile.{file_listing, WholeListing}
use Rattle.track_file.specs.Portions.{start_of, start_cells, whole_of}
use Rattle.file_reader.specs.declared.Reader.{Reader}
use Rattle.track_input.specs.declared.Input.{Input}
use Rattle.track_input.specs.declared.Input.TheVariants.{Open, Ended, Failed}
use Rattle.track_input.specs.Formats.{track_file_steps}
use Rattle.track_input.specs.Reading.{portions_of, ReadThrough}
use Rattle.track_input.proofs.TrackFiles.{all-from-start, reader-from-start, cells-from-start}
use Rattle.track_listing.specs.InputListing.{listed_of, ListedInput}

module _ (buffer : List ℕ) {first : Reader} {cleared : List ℕ} (started : (first ≡ start_of (length buffer)) × (cleared ≡ start_cells buffer))
    {input : Input Reader} {cells : List ℕ} (through : ReadThrough track_file_steps first cleared input cells) where
  listed : {answer : ℕ} {out : List ℕ} → answer ≡ length (listed_of (length buffer) input through.reads) → take answer out ≡ listed_of (length buffer) input through.reads
      → ListedInput buffer answer out
  listed a f = record { reads = through.reads; last = input; all = all-from-start buffer started through; answer_is = a; front_is = f }

  pub not_ended : (out : List ℕ) → ((reader : Reader) × (input ≡ Open reader)) ⊎ (input ≡ Failed) → ListedInput buffer 0 out
  unfolding listed_of
  not_ended out (inl (reader, e)) = listed (rw e) (rw e)
  not_ended out (inr e) = listed (rw e) (rw e)

  pub has_ended : {reader : Reader} {before out : List ℕ} {answer : ℕ} → input ≡ Ended reader → WholeListing reader cells answer before out → answer ≤ length before
      → ListedInput buffer answer out
  unfolding listed_of
  has_ended {reader} {before} {out} {answer} e listing room =
      let portions = portions_of through.reads in
      let made = file_listing (length buffer) (whole_of portions) in
      let whole = listing.whole buffer portions (reader-from-start buffer started through e) (cells-from-start buffer started through) in
      listed (rw e whole.0)
      (rw e
      (ap (take answer) whole.1 ∙ ap (λ (n : ℕ). take n (out_after made before)) whole.0
      ∙ front-in-room made before (subst (λ (n : ℕ). n ≤ length before) whole.0 room)))
