-- Section 13 of the specification, rules 13.61 to 13.64: what flux_to_cells writes of its input. Reads are as track_input has them. The main
-- property: it writes the new file of all bytes that were read, or the line of their refusal. Assumes nothing.
use Rattle.std.specs.Prelude.{ℕ, ◌≤◌, ◌≡◌, List, [], length, take}
use Rattle.lines.specs.Lines.{refused_line}
use Rattle.refusals.specs.RefusedCalls.{Answer}
use Rattle.refusals.specs.RefusedCalls.Answer.{gives, refused}
use Rattle.track_file.specs.Portions.{whole_of}
use Rattle.track_file.specs.TrackFile.{Content}
use Rattle.flux_reader.specs.declared.FluxReader.{FluxReader}
use Rattle.flux_file.specs.FluxFile.{flux_answer}
use Rattle.flux_file.specs.Portions.{start_of}
use Rattle.track_input.specs.Formats.{flux_file_steps}
use Rattle.track_input.specs.Reading.{OneRead, portions_of, AllReads}
use Rattle.flux_conversion.specs.Conversion.{new_file}
use Rattle.track_input.specs.declared.Input.{Input}
use Rattle.track_input.specs.declared.Input.TheVariants.{Open, Ended, Failed}

-- 11.4, 13.61, 13.62: what is written of a file that gives this: its new file, or the line of its refusal
unfoldable pub output_of : Answer Content → List ℕ → List ℕ
output_of (gives content) file = new_file file
output_of (refused number value) file = refused_line number

-- 13.2, 13.61, 13.63: what is written of an input that the reads brought to this: where it has ended, that of the file that their bytes make up,
-- and else nothing
unfoldable pub output_of_input : Input FluxReader → List OneRead → List ℕ
output_of_input (Open reader) reads = []
output_of_input (Ended reader) reads = output_of (flux_answer (whole_of (portions_of reads))) (whole_of (portions_of reads))
output_of_input Failed reads = []

-- 13.1, 13.61, 13.64: there are reads, from the start of a file with room for all cells, of which what is written stands at the front of `out`,
-- so many bytes
pub record ConvertedInput (count : ℕ) (out : List ℕ) : Type 0 where
  pub reads : List OneRead
  pub last : Input FluxReader
  pub all : AllReads flux_file_steps (start_of 16384) reads last
  pub within : count ≤ length out
  pub count_is : count ≡ length (output_of_input last reads)
  pub front_is : take count out ≡ output_of_input last reads
