-- Section 13 of the specification, rules 13.51 and 13.54 to 13.57: what write_track has to write, to standard output and to standard error. Reads
-- are as standard_input has them. The main property: what is written is `outputs_of` of the list that the reads brought. Assumes nothing.
use Rattle.std.specs.Prelude.{ℕ, ◌/◌, ◌%◌, ◌≤◌, ◌≡◌, Bool, cond, List, [], ◌∷◌, ◌++◌, eqb, ltb, length, take}
use Rattle.lines.specs.Lines.{bytes_of, refused_line}
use Rattle.standard_input.specs.Reading.{ReadOn}
use Rattle.track_writer.specs.WriteTrack.{written, cell_count}
use Rattle.write_track.specs.declared.Written.{Written}
use Rattle.write_track.specs.declared.Written.TheVariants.{Output, Message}

-- the bytes for standard output, and those for standard error
pub record Outputs : Type 0 where
  pub output : List ℕ
  pub message : List ℕ

-- how many bytes at the front of a buffer are for standard output, and how many for standard error
abbrev pub output_count : Written → ℕ
output_count (Output count) = count
output_count (Message count) = 0

abbrev pub message_count : Written → ℕ
message_count (Output count) = 0
message_count (Message count) = count

-- 10.2: a number in four bytes, the lowest first
abbrev pub in_four_bytes : ℕ → List ℕ
in_four_bytes n = n % 256 ∷ n / 256 % 256 ∷ n / 65536 % 256 ∷ n / 16777216 % 256 ∷ []

-- 10.1, 10.2, 10.3: a track file up to its packed cells: the place, after its count of 2, and the number of cells
unfoldable pub front_of : (T H cells : ℕ) → List ℕ
front_of T H cells = in_four_bytes 2 ++ (T ∷ H ∷ in_four_bytes cells)

-- 10.1, 13.51: the track file with these packed cells: it has no timings, so that the last count is 0
unfoldable pub file_with : (T H cells : ℕ) → List ℕ → List ℕ
file_with T H cells packed = front_of T H cells ++ (packed ++ in_four_bytes 0)

-- 11.4, 13.55: no file, and the line of a refusal
unfoldable pub refusal : ℕ → Outputs
refusal number = record { output = []; message = refused_line number }

-- 13.57: no file, and the line of an input that cannot be read to its end
unfoldable pub unreadable : Outputs
unreadable = record { output = []; message = bytes_of "write_track: the list cannot be read to its end\n" }

-- 13.51, 13.54, 13.55: what is written of a list at a place. A place that no track has is refused with 1, then the list of no bytes with 15, since a
-- track file has cells or timings, then more than 131,072 cells with 20
unfoldable pub outputs_of : (T H : ℕ) → List ℕ → Outputs
outputs_of T H list =
    cond (ltb 83 T) (refusal 1)
    (cond (ltb 1 H) (refusal 1)
    (cond (eqb (length list) 0) (refusal 15)
    (cond (ltb 131072 (cell_count list)) (refusal 20) (record { output = file_with T H (cell_count list) (written list); message = [] }))))

-- 13.56, 13.57: what is written of an input of which these bytes were read, and which ended there or not. More than 8,192 bytes are too many,
-- whatever follows them (`enough-read`, in proofs/Outputs)
unfoldable pub outputs_of_input : (T H : ℕ) (ended : Bool) → List ℕ → Outputs
outputs_of_input T H ended list = cond (ltb 8192 (length list)) (outputs_of T H list) (cond ended (outputs_of T H list) unreadable)

-- these bytes stand at the front of `out`, and there are `count` of them
pub record AtFront (bytes : List ℕ) (count : ℕ) (out : List ℕ) : Type 0 where
  pub within : count ≤ length out
  pub front_is : take count out ≡ bytes

-- the bytes for the two outputs stand at the front of `out`, so many of them
pub record Made (outputs : Outputs) (output message : ℕ) (out : List ℕ) : Type 0 where
  pub output_is : AtFront outputs.output output out
  pub message_is : AtFront outputs.message message out

-- 13.1, 13.56: there are reads, to the end of a room of 8,193 bytes or up to one that brought nothing, of which what is to be written stands at the
-- front of `out`
pub record MadeOfInput (T H output message : ℕ) (out : List ℕ) : Type 0 where
  pub room : List ℕ
  pub count : ℕ
  pub ended : Bool
  pub long : length room ≡ 8193
  pub read : ReadOn [] room count ended
  pub made : Made (outputs_of_input T H ended (take count room)) output message out
