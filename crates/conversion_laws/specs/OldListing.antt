-- Section 18 of the specification, rule 18.15: what was before the flux section was retired: what the old reader gave of a file, with cells or
-- with timings, and what the old program printed of it. Nothing but the claims of this crate goes by these definitions. Assumes nothing.
use Rattle.std.specs.Prelude.{ℕ, ◌+◌, ◌*◌, Bool, cond, not, ◌&&◌, ◌||◌, List, ◌++◌, eqb, ltb, length, drop, replicate}
use Rattle.basis.specs.Lists.{written_over}
use Rattle.cells.specs.CellsAndBytes.{bytes_for, packed}
use Rattle.findings.specs.Calls.{findings_answer}
use Rattle.layouts.specs.Layouts.{double_density}
use Rattle.lines.specs.Lines.{bytes_of, decimal_of, refused_line}
use Rattle.listing.specs.Listing.{printed, listing_of}
use Rattle.refusals.specs.RefusedCalls.{Answer}
use Rattle.refusals.specs.RefusedCalls.Answer.{gives, refused}
use Rattle.separation.specs.Separation.{cells_of, border_pulses_of, separation}
use Rattle.track_file.specs.TrackFile.{Content, track_of, side_of, cell_count, packed_bytes, flux_section, flux_count, has_count, place_count_refused, cell_count_refused}
use Rattle.flux_file.specs.FluxFile.{numbers, placed}

-- 18.15: the timings of a file, which stood behind its cells and their own count
abbrev pub old_timings : List ℕ → List ℕ
old_timings file = numbers (flux_count file) (drop 4 (flux_section file))

-- 18.15: the count of timings was there and above 65,536
abbrev pub old_flux_count_refused : List ℕ → Bool
old_flux_count_refused file = has_count (flux_section file) && ltb 65536 (flux_count file)

-- 18.15: the bytes were no track file: both counts were 0 or both were not, or bytes were missing or left over
unfoldable pub old_not_a_track_file : List ℕ → Bool
old_not_a_track_file file =
    cond (eqb (cell_count file) 0) (eqb (flux_count file) 0) (not (eqb (flux_count file) 0))
    || not (eqb (length file) (14 + bytes_for (cell_count file) + 4 * flux_count file))

-- 18.15: what a file gave: 15, 2 and 7 at once, then 15, then 8 and 9 of its timings; else T, H and the number of its cells, which could be 0
unfoldable pub old_answer : List ℕ → Answer Content
old_answer file =
    cond (place_count_refused file) (refused 15 0)
    (cond (cell_count_refused file) (refused 2 (cell_count file))
    (cond (old_flux_count_refused file) (refused 7 (flux_count file))
    (cond (old_not_a_track_file file) (refused 15 0)
    (placed (track_of file) (side_of file) (cond (eqb (flux_count file) 0) (gives (cell_count file)) (separation (old_timings file) 16384))))))

-- 18.15: its packed cells, its own or those of its timings, and the buffer of the program, which had zeros behind them
unfoldable pub old_cells : List ℕ → List ℕ
old_cells file = cond (eqb (flux_count file) 0) (packed_bytes file) (packed (cells_of (old_timings file)))

abbrev pub old_buffer : List ℕ → List ℕ
old_buffer file = written_over (old_cells file) (replicate 16384 0)

-- 18.15: the line of the border pulses: the name FAA, a space and their number, as in `FAA 0`
unfoldable pub border_pulses_line : ℕ → List ℕ
border_pulses_line pulses = bytes_of "FAA " ++ decimal_of pulses ++ bytes_of "\n"

-- 18.15: the listing of a track whose cells were made of timings with so many border pulses: that of the track, and then this line. A track that
-- is refused has no such line
unfoldable pub flux_listing_of : (bytes : List ℕ) (N T H pulses : ℕ) → List ℕ
flux_listing_of bytes N T H pulses = printed (findings_answer double_density bytes N T H 901) (listing_of bytes N T H ++ border_pulses_line pulses)

-- 18.15: what was printed of a file that gave this: the line of its refusal, or the listing of its cells, with the line FAA where it had timings
unfoldable pub old_printed : Answer Content → List ℕ → List ℕ
old_printed (gives content) file =
    cond (eqb (flux_count file) 0) (listing_of (old_buffer file) content.cells content.track content.side)
    (flux_listing_of (old_buffer file) content.cells content.track content.side (border_pulses_of (old_timings file)))
old_printed (refused number value) file = refused_line number

-- 18.15: what the old program printed of a file
abbrev pub old_listing : List ℕ → List ℕ
old_listing file = old_printed (old_answer file) file
