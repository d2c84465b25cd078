-- 10 is never given with a cell buffer of 16,384 bytes or more, whatever the file; and no listing is empty. Assumes nothing.
use Prim.Native.Nat.{ℕ, ◌<◌, ◌≤◌}
use mathlib.Core.Path.{◌≡◌}
use mathlib.Core.List.{List}
use native.Mathlib.Omega.{arith}
use borrow.Author.Tests.{le-ltb}
use lib.ListN.{length}
use Rattle.refusals.specs.RefusedCalls.{Answer}
use Rattle.refusals.specs.RefusedCalls.Answer.{gives, refused}
use Rattle.track_file.specs.TrackFile.{Content, place_count_refused, cell_count_refused, flux_count_refused, cell_count, not_a_track_file, given_at_once, file_answer, file_answer_in}
use Rattle.lines.proofs.Lengths.{some_refused}
use Rattle.listing.proofs.Laws.{never-behind, never-given, some_listed}
use Rattle.file_listing.specs.ListingOfFile.{printed_file}

pub never-ten : (room : ℕ) → 16384 ≤ room → (file : List ℕ) (value : ℕ) → file_answer_in room file ≡ refused 10 value → ⊥
unfolding file_answer_in file_answer given_at_once
never-ten room enough file =
    rw (le-ltb room 16384 enough)
    (never-behind 10 (place_count_refused file) 15 0 _ (λ e. omega arith)
    (λ _. never-behind 10 (cell_count_refused file) 2 (cell_count file) _ (λ e. omega arith)
    (λ _. never-behind 10 (flux_count_refused file) 23 0 _ (λ e. omega arith)
    (λ _. never-behind 10 (not_a_track_file file) 15 0 _ (λ e. omega arith) (λ _. never-given 10 _)))))

pub some_printed : (answer : Answer Content) (cells : List ℕ) → 0 < length (printed_file answer cells)
unfolding printed_file
some_printed (gives content) cells = some_listed cells content.cells content.track content.side
some_printed (refused number value) cells = some_refused number
