-- Section 13 of the specification, rules 13.1 to 13.6: what track_listing makes of its input. Reads are as track_input has them. Assumes
-- nothing.
use Rattle.std.specs.Prelude.{ℕ, ◌≡◌, List, [], length, take}
use Rattle.file_listing.specs.ListingOfFile.{file_listing}
use Rattle.file_reader.specs.declared.Reader.{Reader}
use Rattle.track_file.specs.Portions.{start_of, whole_of}
use Rattle.track_input.specs.Formats.{track_file_steps}
use Rattle.track_input.specs.Reading.{OneRead, portions_of, AllReads}
use Rattle.track_input.specs.declared.Input.{Input}
use Rattle.track_input.specs.declared.Input.TheVariants.{Open, Ended, Failed}

-- 13.2, 13.4, 13.6: what is listed of an input that the reads brought to this, with a cell buffer of `room` bytes: where it has ended, the
-- file that their bytes make up, and else nothing. The program has 16,384 bytes, so that 10 is not given
unfoldable pub listed_of : ℕ → Input Reader → List OneRead → List ℕ
listed_of room (Open reader) reads = []
listed_of room (Ended reader) reads = file_listing room (whole_of (portions_of reads))
listed_of room Failed reads = []

-- 13.1, 13.4: there are reads of which what is listed stands at the front of `out`; the answer is its number of bytes
pub record ListedInput (buffer : List ℕ) (answer : ℕ) (out : List ℕ) : Type 0 where
  pub reads : List OneRead
  pub last : Input Reader
  pub all : AllReads track_file_steps (start_of (length buffer)) reads last
  pub answer_is : answer ≡ length (listed_of (length buffer) last reads)
  pub front_is : take answer out ≡ listed_of (length buffer) last reads
