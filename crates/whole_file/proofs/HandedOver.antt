-- The cells of a file handed over: what each way out of the call promises. Assumes nothing.
use Prim.Native.Nat.{ℕ, ◌≤◌, ◌<◌}
use mathlib.Core.Path.{◌≡◌, refl, sym, ◌∙◌, ap}
use mathlib.Core.List.{List, [], ◌∷◌}
use native.Mathlib.Omega.{arith}
use borrow.Author.Tests.{lt-ltb, le-ltb}
use lib.ListN.{length, take, drop, replicate, length-append}
use lib.Seq.{take_all, take_at}
use Rattle.std.specs.Prelude.{Result, Ok, Err}
use Rattle.basis.specs.Lists.{written_over}
use Rattle.cells.specs.CellsAndBytes.{bytes_for}
use Rattle.refusals.specs.RefusedCalls.{Answer, buffer_after, refused_with}
use Rattle.refusals.specs.RefusedCalls.Answer.{gives}
use Rattle.refusals.specs.declared.Refusal.{Refusal}
use Rattle.refusals.specs.declared.Refusal.TheVariants.{NoRoom}
use Rattle.file_reader.specs.declared.Reader.{Reader}
use Rattle.track_file.specs.Portions.{start_of, start_cells, reader_after, cells_after, whole_of, read_answer, WholeFile}
use Rattle.track_file.specs.TrackFile.{Content, file_answer, packed_bytes, file_answer_in, file_buffer}
use Rattle.track_file.specs.declared.FileCells.{FileCells}
use Rattle.track_file.proofs.Portions.{in-one-portion}
use Rattle.whole_file.specs.FileCells.{answer_in_room, cells_answer}
use Rattle.whole_file.proofs.Accepted.{cells-fill}

-- what the call promises: this answer, and this buffer afterwards
abbrev Handed : (file before after : List ℕ) → Answer Content → Type 0
Handed file before after told = (told ≡ cells_answer (length before) file) × (after ≡ buffer_after (cells_answer (length before) file) (packed_bytes file) before)

-- a file read in one portion into a buffer of 16,384 bytes
module _ (buffer file : List ℕ) (room : length buffer ≡ 16384) {start reader : Reader} {cleared own : List ℕ}
    (started : (start ≡ start_of (length buffer)) × (cleared ≡ start_cells buffer)) (fed : (reader ≡ reader_after start file) × (own ≡ cells_after start file cleared))
    (read : Result FileCells Refusal) (whole : WholeFile reader (read_answer read)) where
  given : (read_answer read ≡ file_answer file) × ((content : Content) → read_answer read ≡ gives content → own ≡ file_buffer 16384 file)
  unfolding file_answer_in
  given =
      let one = in-one-portion buffer file started fed in
      let w = whole.whole buffer (file ∷ []) one.0 in
      let same : file_answer_in (length buffer) (whole_of (file ∷ [])) ≡ file_answer file = rw (one.1.1, room) in
      (w.0 ∙ same, λ content is. one.1.0 ∙ w.1 content is ∙ rw (one.1.1, room))

  pub refused-file : (before : List ℕ) {refusal : Refusal} → read ≡ Err refusal → Handed file before before (refused_with refusal)
  unfolding answer_in_room buffer_after
  refused-file before is = rw (← given.0, is) (refl, refl)

  module _ {cells : FileCells} (is : read ≡ Ok cells) where
    abbrev content : Content
    content = record { track = cells.track; side = cells.side; cells = cells.count }

    accepted : file_answer file ≡ gives content
    accepted = sym given.0 ∙ ap read_answer is

    -- at most 131,072 cells, whose bytes are in our own buffer
    pub some_cells : (cells.count ≤ 131072) × (bytes_for cells.count ≤ length own)
    unfolding file_buffer
    some_cells =
        let fill = cells-fill file content accepted in
        let whole-own = ap length (given.1 content (ap read_answer is)) in
        let parts = length-append (packed_bytes file) (drop (length (packed_bytes file)) (replicate 16384 0)) in
        (fill.1, omega (arith, fill.0, whole-own, parts))

    pub no_room : (before : List ℕ) → length before < bytes_for cells.count → Handed file before before (refused_with (NoRoom (bytes_for cells.count)))
    unfolding answer_in_room buffer_after
    no_room before h = rw (accepted, lt-ltb (length before) (bytes_for cells.count) h) (refl, refl)

    pub handed : (before : List ℕ) {after : List ℕ} → bytes_for cells.count ≤ length before
        → after ≡ written_over (take (length before) (take (bytes_for cells.count) own)) before → Handed file before after (gives content)
    unfolding answer_in_room buffer_after file_buffer
    handed before h e =
        let fill = cells-fill file content accepted in
        let own-cells =
        ap (take (bytes_for cells.count)) (given.1 content (ap read_answer is))
        ∙ take_at (packed_bytes file) (drop (length (packed_bytes file)) (replicate 16384 0)) (bytes_for cells.count) fill.0 in
        let front = ap (take (length before)) own-cells ∙ take_all (length before) (packed_bytes file) (omega (arith, fill.0)) in
        rw (accepted, le-ltb (length before) (bytes_for cells.count) h) (refl, e ∙ ap (λ (l : List ℕ). written_over l before) front)
