-- Section 18 of the specification: the old flux file as a whole.
--
--   place                  cells      flux
--   count 2    T    H      count 0    count k    k timings
--   4 bytes    1    1      4 bytes    4 bytes    4 bytes each
--
-- The main property: `flux_answer`, which is what such a file gives, also where it is read in portions (`WholeFluxFile`, in Portions). What is
-- asked of a file that lacks the bytes for it counts them as 0: such a file is short and refused. Assumes nothing.
use Rattle.std.specs.Prelude.{ℕ, zero, suc, ◌+◌, ◌*◌, Bool, cond, not, ◌&&◌, ◌||◌, List, [], ◌∷◌, eqb, ltb, length, drop, replicate}
use Rattle.basis.specs.Bytes.{number}
use Rattle.basis.specs.Lists.{written_over}
use Rattle.cells.specs.CellsAndBytes.{packed}
use Rattle.separation.specs.Separation.{cells_of, separation}
use Rattle.refusals.specs.RefusedCalls.{Answer}
use Rattle.refusals.specs.RefusedCalls.Answer.{gives, refused}
use Rattle.track_file.specs.TrackFile.{Content, track_of, side_of, cell_section, cell_count, has_count, place_count_refused}

-- 18.1: so many timings, one after another, of four bytes each
unfoldable pub numbers : ℕ → List ℕ → List ℕ
numbers zero bytes = []
numbers (suc k) bytes = number bytes ∷ numbers k (drop 4 bytes)

-- 18.1: the flux timings: their count, which follows that of the cells, and four bytes for each
abbrev pub flux_section : List ℕ → List ℕ
flux_section file = drop 4 (cell_section file)

abbrev pub flux_count : List ℕ → ℕ
flux_count file = number (flux_section file)

abbrev pub timings : List ℕ → List ℕ
timings file = numbers (flux_count file) (drop 4 (flux_section file))

-- 18.4: how many bytes a file with this count of timings has
abbrev pub flux_file_length : List ℕ → ℕ
flux_file_length file = 14 + 4 * flux_count file

-- 8.15, 18.2: the count of cells is there and is not 0
abbrev pub cells_refused : List ℕ → Bool
cells_refused file = has_count (cell_section file) && not (eqb (cell_count file) 0)

-- 8.7, 18.2: the count of timings is there and above 65,536
abbrev pub flux_count_refused : List ℕ → Bool
flux_count_refused file = has_count (flux_section file) && ltb 65536 (flux_count file)

-- 18.2, 18.3: the refusals that are given at once: that of the count which stands first in the file; and else what `next` answers
unfoldable pub given_at_once : List ℕ → Answer Content → Answer Content
given_at_once file next =
    cond (place_count_refused file) (refused 15 0)
    (cond (cells_refused file) (refused 15 0) (cond (flux_count_refused file) (refused 7 (flux_count file)) next))

-- 18.2: one of the three is given
unfoldable pub refused_at_once : List ℕ → Bool
refused_at_once file = place_count_refused file || (cells_refused file || flux_count_refused file)

-- 8.15, 18.4: the bytes are no flux file, judged at their end: they have no timings, or bytes are missing or left over
unfoldable pub not_a_flux_file : List ℕ → Bool
not_a_flux_file file = eqb (flux_count file) 0 || not (eqb (length file) (flux_file_length file))

-- 8.2, 18.6: a number of cells is judged: no cells are refused with 2
unfoldable pub some_cells : Answer ℕ → Answer ℕ
some_cells (gives cells) = cond (eqb cells 0) (refused 2 0) (gives cells)
some_cells (refused number value) = refused number value

-- 18.7: an answer that gives a number of cells, with T and H beside it
unfoldable pub placed : (track side : ℕ) → Answer ℕ → Answer Content
placed track side (gives cells) = gives (record { track = track; side = side; cells = cells })
placed track side (refused number value) = refused number value

-- 18.3 to 18.7: what a file gives: the refusals at once, then 15, then those of the separator's list call on its timings with room for 131,072
-- cells, then 2; else T, H and the number of cells. T and H are not judged
unfoldable pub flux_answer : List ℕ → Answer Content
flux_answer file =
    given_at_once file
    (cond (not_a_flux_file file) (refused 15 0) (placed (track_of file) (side_of file) (some_cells (separation (timings file) 16384))))

-- 18.7: the packed cells of an accepted file, which the separator makes of its timings
abbrev pub flux_cells : List ℕ → List ℕ
flux_cells file = packed (cells_of (timings file))

-- 8.10, 18.8: what a file gives that is read into a buffer of `room` bytes: 10 goes first, with the bytes that 131,072 cells need beside it
unfoldable pub flux_answer_in : ℕ → List ℕ → Answer Content
flux_answer_in room file = cond (ltb room 16384) (refused 10 16384) (flux_answer file)

-- 18.8: that buffer after an accepted file: its cells, and then zeros
unfoldable pub flux_buffer : ℕ → List ℕ → List ℕ
flux_buffer room file = written_over (flux_cells file) (replicate room 0)
