-- Section 10 of the specification: the track file as a whole.
--
--   place                  cells                       flux
--   count 2    T    H      count N    packed bytes     count 0
--   4 bytes    1    1      4 bytes    (N + 7) / 8      4 bytes
--
-- The main property: `file_answer`, which is what a file gives, also where it is read in portions (`WholeFile`, in Portions). What is asked
-- of a file that lacks the bytes for it counts them as 0: such a file is short and refused. Assumes nothing.
use Rattle.std.specs.Prelude.{ℕ, ◌+◌, ◌/◌, ◌%◌, Bool, cond, not, ◌&&◌, ◌||◌, List, [], ◌∷◌, ◌++◌, eqb, leb, ltb, length, get_or, take, drop, replicate}
use Rattle.basis.specs.Bytes.{number}
use Rattle.basis.specs.Lists.{written_over}
use Rattle.cells.specs.CellsAndBytes.{bytes_for}
use Rattle.refusals.specs.RefusedCalls.{Answer}
use Rattle.refusals.specs.RefusedCalls.Answer.{gives, refused}

-- 10.1, 10.2: the place: its count, and T and H in a byte each
abbrev pub place_count : List ℕ → ℕ
place_count file = number file

abbrev pub track_of : List ℕ → ℕ
track_of file = get_or file 4 0

abbrev pub side_of : List ℕ → ℕ
side_of file = get_or file 5 0

-- 10.1, 10.3: the cells: their count N, and the bytes that N cells are packed in
abbrev pub cell_section : List ℕ → List ℕ
cell_section file = drop 6 file

abbrev pub cell_count : List ℕ → ℕ
cell_count file = number (cell_section file)

abbrev pub packed_bytes : List ℕ → List ℕ
packed_bytes file = take (bytes_for (cell_count file)) (drop 4 (cell_section file))

-- 10.1, 10.3: the flux section: its count, and no timings
abbrev pub flux_section : List ℕ → List ℕ
flux_section file = drop (bytes_for (cell_count file)) (drop 4 (cell_section file))

abbrev pub flux_count : List ℕ → ℕ
flux_count file = number (flux_section file)

-- 10.2: a number in four bytes, the lowest first
abbrev pub in_four_bytes : ℕ → List ℕ
in_four_bytes n = n % 256 ∷ n / 256 % 256 ∷ n / 65536 % 256 ∷ n / 16777216 % 256 ∷ []

-- 10.1, 10.2, 10.3: a track file up to its packed cells: the place, after its count of 2, and the number of cells
unfoldable pub front_of : (T H cells : ℕ) → List ℕ
front_of T H cells = in_four_bytes 2 ++ (T ∷ H ∷ in_four_bytes cells)

-- 10.1, 18.12: the track file with these packed cells. It has no timings: its last count is 0
unfoldable pub file_with : (T H cells : ℕ) → List ℕ → List ℕ
file_with T H cells packed = front_of T H cells ++ (packed ++ in_four_bytes 0)

-- 8.10, 18.12: what is answered where a track file with these packed cells is to be written to so much room: how many bytes it has, or 10 with
-- that number where they are more
unfoldable pub written_answer : List ℕ → (room : ℕ) → Answer ℕ
written_answer packed room = cond (ltb room (14 + length packed)) (refused 10 (14 + length packed)) (gives (14 + length packed))

-- 10.7: how many bytes a file with this count of cells has
abbrev pub file_length : List ℕ → ℕ
file_length file = 14 + bytes_for (cell_count file)

-- 10.9: what an accepted file gives: T, H and the number of its cells
pub record Content : Type 0 where
  pub track : ℕ
  pub side : ℕ
  pub cells : ℕ

-- 10.4: the four bytes of a section's count are there
abbrev pub has_count : List ℕ → Bool
has_count section = leb 4 (length section)

-- 8.15, 10.4: the count of the place is there and is not 2
abbrev pub place_count_refused : List ℕ → Bool
place_count_refused file = has_count file && not (eqb (place_count file) 2)

-- 8.2, 10.4: the count of cells is there and above 131,072
abbrev pub cell_count_refused : List ℕ → Bool
cell_count_refused file = has_count (cell_section file) && ltb 131072 (cell_count file)

-- 8.23, 10.4: the count of timings is there and is not 0
abbrev pub flux_count_refused : List ℕ → Bool
flux_count_refused file = has_count (flux_section file) && not (eqb (flux_count file) 0)

-- 10.4, 10.5: the refusals that are given at once: that of the count which stands first in the file; and else what `next` answers
unfoldable pub given_at_once : List ℕ → Answer Content → Answer Content
given_at_once file next =
    cond (place_count_refused file) (refused 15 0)
    (cond (cell_count_refused file) (refused 2 (cell_count file)) (cond (flux_count_refused file) (refused 23 0) next))

-- 10.4: one of the three is given
unfoldable pub refused_at_once : List ℕ → Bool
refused_at_once file = place_count_refused file || (cell_count_refused file || flux_count_refused file)

-- 8.15, 10.7: the bytes are no track file, judged at their end: the count of cells is 0, as that of timings is, or bytes are missing or left
-- over
unfoldable pub not_a_track_file : List ℕ → Bool
not_a_track_file file = eqb (cell_count file) 0 || not (eqb (length file) (file_length file))

-- 10.5, 10.9, 10.10: what a file gives: the refusals at once, then 15; else T, H and the number of cells, which are not judged further
unfoldable pub file_answer : List ℕ → Answer Content
file_answer file =
    given_at_once file
    (cond (not_a_track_file file) (refused 15 0) (gives (record { track = track_of file; side = side_of file; cells = cell_count file })))

-- 8.10, 9.10, 10.11: what a file gives that is read into a buffer of `room` bytes: 10 goes first, with the bytes that 131,072 cells need
-- beside it
unfoldable pub file_answer_in : ℕ → List ℕ → Answer Content
file_answer_in room file = cond (ltb room 16384) (refused 10 16384) (file_answer file)

-- 10.14: that buffer after an accepted file: its cells, and then zeros
unfoldable pub file_buffer : ℕ → List ℕ → List ℕ
file_buffer room file = written_over (packed_bytes file) (replicate room 0)
