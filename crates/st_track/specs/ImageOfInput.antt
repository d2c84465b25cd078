-- Section 13 of the specification, rules 13.31 to 13.34: what st_track has to write, to standard output and to standard error. Reads are as
-- track_input has them. The main property: what is written is `image_of_file` of the file that the reads make up. Assumes nothing.
use Rattle.std.specs.Prelude.{ℕ, ◌≡◌, cond, List, [], ◌∷◌, ◌++◌, eqb, length, take}
use Rattle.lines.specs.Lines.{bytes_of, digit, refused_line}
use Rattle.refusals.specs.RefusedCalls.{Answer}
use Rattle.refusals.specs.RefusedCalls.Answer.{gives, refused}
use Rattle.file_reader.specs.declared.Reader.{Reader}
use Rattle.track_file.specs.Portions.{start_of, whole_of}
use Rattle.track_input.specs.Formats.{track_file_steps}
use Rattle.track_input.specs.Reading.{OneRead, portions_of, AllReads}
use Rattle.track_input.specs.declared.Input.{Input}
use Rattle.track_input.specs.declared.Input.TheVariants.{Open, Ended, Failed}
use Rattle.file_image.specs.ImageOfFile.{file_image_answer, file_image}
use Rattle.st_track.specs.declared.Written.{Written}
use Rattle.st_track.specs.declared.Written.TheVariants.{Output, Message}

-- the bytes for standard output, and those for standard error
pub record Outputs : Type 0 where
  pub output : List ℕ
  pub message : List ℕ

-- how many bytes at the front of a buffer are for standard output, and how many for standard error
abbrev pub output_count : Written → ℕ
output_count (Output count) = count
output_count (Message count) = 0

abbrev pub message_count : Written → ℕ
message_count (Output count) = 0
message_count (Message count) = count

-- 13.33: the line of refusal 24, as `refused 24 number 5`. The number is one of 0 to 9, so it has one digit
unfoldable pub number_line : ℕ → List ℕ
number_line value = bytes_of "refused 24 number " ++ (digit value ∷ bytes_of "\n")

-- 11.4, 13.33: the line of a refusal with this number and value
unfoldable pub refusal_line : (number value : ℕ) → List ℕ
refusal_line number value = cond (eqb number 24) (number_line value) (refused_line number)

-- 13.34: the line of an input that cannot be read to its end
unfoldable pub unreadable_line : List ℕ
unreadable_line = bytes_of "st_track: the input cannot be read to its end\n"

-- 13.31, 13.33: an image, or the line of its refusal
unfoldable pub outputs_of : Answer ℕ → (image : List ℕ) → Outputs
outputs_of (gives count) image = record { output = image; message = [] }
outputs_of (refused number value) image = record { output = []; message = refusal_line number value }

-- 13.31, 13.32: what is written of a file. There are 16,384 bytes for its cells and enough for the image, so that 10 and 13 are not given
unfoldable pub image_of_file : List ℕ → Outputs
image_of_file file = outputs_of (file_image_answer 16384 4608 file) (file_image 16384 file)

-- 13.31, 13.34: what is written of an input that the reads brought to this: where it has ended, that of the file which their bytes make up
unfoldable pub outputs_of_input : Input Reader → List OneRead → Outputs
outputs_of_input (Open reader) reads = record { output = []; message = unreadable_line }
outputs_of_input (Ended reader) reads = image_of_file (whole_of (portions_of reads))
outputs_of_input Failed reads = record { output = []; message = unreadable_line }

-- these bytes stand at the front of `out`, and there are `count` of them
pub record AtFront (bytes : List ℕ) (count : ℕ) (out : List ℕ) : Type 0 where
  pub count_is : count ≡ length bytes
  pub front_is : take count out ≡ bytes

-- 13.31, 13.34: there are reads of which what is to be written stands at the front of `out`, with so many bytes for each of the two
pub record ImagedInput (output message : ℕ) (out : List ℕ) : Type 0 where
  pub reads : List OneRead
  pub last : Input Reader
  pub all : AllReads track_file_steps (start_of 16384) reads last
  pub output_is : AtFront (outputs_of_input last reads).output output out
  pub message_is : AtFront (outputs_of_input last reads).message message out
