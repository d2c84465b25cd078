-- Section 18 of the specification, rules 18.16 and 18.17: what became of the files that there were. The main properties: `Converts`, that the new file
-- of an old flux file is listed, the line FAA apart, or refused as the old file was; and `AsBefore`, that a file without timings is read and listed
-- as it was. Both are proved in proofs/Theorems, for every list of bytes. Assumes nothing.
use Rattle.std.specs.Prelude.{ℕ, ◌≡◌, Bool, cond, ◌&&◌, ◌||◌, List, ◌++◌, eqb, ltb}
use Rattle.file_listing.specs.ListingOfFile.{file_listing}
use Rattle.lines.specs.Lines.{refused_line}
use Rattle.refusals.specs.RefusedCalls.{Answer}
use Rattle.refusals.specs.RefusedCalls.Answer.{gives, refused}
use Rattle.separation.specs.Separation.{border_pulses_of}
use Rattle.track_file.specs.TrackFile.{Content, track_of, side_of, packed_bytes, file_answer}
use Rattle.flux_file.specs.FluxFile.{timings, flux_answer}
use Rattle.flux_conversion.specs.Conversion.{new_file}
use Rattle.conversion_laws.specs.OldListing.{old_answer, old_cells, border_pulses_line, old_listing}

-- 18.16: what the old reader gave, but that no cells are refused with 2
unfoldable pub without_no_cells : Answer Content → Answer Content
without_no_cells (gives content) = cond (eqb content.cells 0) (refused 2 0) (gives content)
without_no_cells (refused number value) = refused number value

-- 18.16: a place that no track has: T above 83 or H above 1
abbrev pub outside : (T H : ℕ) → Bool
outside T H = ltb 83 T || ltb 1 H

-- 18.16: the number that the old program printed of a file at this place that the converter refuses with `number`: the same, but where no cells come
-- out of a file with a place that no track has. There the program judged the place, and the converter does not
unfoldable pub old_number : (T H number : ℕ) → ℕ
old_number T H number = cond (eqb number 2 && outside T H) 1 number

-- 18.16: the refusals of a track that an accepted file can have: its place, its number of cells, its number of sectors
pub data OfTrack : ℕ → Type 0 where
  one : OfTrack 1
  two : OfTrack 2
  four : OfTrack 4

-- 18.16: an old listing and a new one are alike: the old one has the line of its border pulses after the same listing, or both are the line of the
-- same refusal
pub data Alike (pulses : ℕ) : (old new : List ℕ) → Type 0 where
  listed : {listing : List ℕ} → Alike pulses (listing ++ border_pulses_line pulses) listing
  refused_both : {number : ℕ} → OfTrack number → Alike pulses (refused_line number) (refused_line number)

-- 18.16: of a file that has no cells: the converter answers what the old reader gave, but for 2 where there are no cells. Where it is accepted, the
-- reader takes the new file, with the same T, H and number of cells and the same cells, and the listings are alike. Where it is refused, the old
-- program printed the same refusal, the corner of `old_number` apart
pub record Converts (file : List ℕ) : Type 0 where
  pub answer : flux_answer file ≡ without_no_cells (old_answer file)
  pub read : (content : Content) → flux_answer file ≡ gives content
      → (file_answer (new_file file) ≡ old_answer file) × (packed_bytes (new_file file) ≡ old_cells file)
  pub listings : (content : Content) → flux_answer file ≡ gives content
      → Alike (border_pulses_of (timings file)) (old_listing file) (file_listing 16384 (new_file file))
  pub refusals : (number value : ℕ) → flux_answer file ≡ refused number value → old_listing file ≡ refused_line (old_number (track_of file) (side_of file) number)

-- 18.17: of a file that is not refused with 23: it is read and listed as it was
pub record AsBefore (file : List ℕ) : Type 0 where
  pub answer : file_answer file ≡ old_answer file
  pub listing : file_listing 16384 file ≡ old_listing file
