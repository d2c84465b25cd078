-- Section 11 of the specification, rule 11.8: the listing of a whole track file. The main property is `WholeListing`: the listing
-- does not depend on how the file was cut into portions. Assumes nothing.
use Rattle.std.specs.Prelude.{ℕ, ◌≡◌, List, length}
use Rattle.listing.specs.Listing.{listing_of}
use Rattle.lines.specs.Lines.{refused_line, out_after}
use Rattle.refusals.specs.RefusedCalls.{Answer}
use Rattle.refusals.specs.RefusedCalls.Answer.{gives, refused}
use Rattle.track_file.specs.Portions.{reader_through, cells_through, whole_of}
use Rattle.track_file.specs.TrackFile.{Content, file_answer_in, file_buffer}
use Rattle.file_reader.specs.declared.Reader.{Reader}

-- 11.4, 11.8: what is printed of a file that gives this, with these packed cells: the line with the refusal's number where the file is
-- refused, and else the listing of the track with its cells, T and H, which judges 1 to 4 last
unfoldable pub printed_file : Answer Content → List ℕ → List ℕ
printed_file (gives content) cells = listing_of cells content.cells content.track content.side
printed_file (refused number value) cells = refused_line number

-- 9.13, 11.8: the listing of a file that is read with a cell buffer of `room` bytes
unfoldable pub file_listing : ℕ → List ℕ → List ℕ
file_listing room file = printed_file (file_answer_in room file) (file_buffer room file)

-- 10.15, 11.8: for every file and every way to cut it into portions: where `start` was called on a buffer and then `feed` on each portion
-- in turn, the listing is that of the whole file
pub record WholeListing (reader : Reader) (cells : List ℕ) (answer : ℕ) (before after : List ℕ) : Type 0 where
  pub whole : (buffer : List ℕ) (portions : List (List ℕ)) → reader ≡ reader_through buffer portions → cells ≡ cells_through buffer portions
      → (answer ≡ length (file_listing (length buffer) (whole_of portions)))
      × (after ≡ out_after (file_listing (length buffer) (whole_of portions)) before)
