-- One track block, worked by computation: what it gives, and what is refused of it. Assumes nothing.
use Prim.Native.Nat.{ℕ}
use mathlib.Core.Path.{◌≡◌, refl}
use mathlib.Core.Bool.{false}
use mathlib.Core.List.{List, [], ◌∷◌, ◌++◌}
use Rattle.basis.specs.Search.{least}
use Rattle.flux_timings.specs.Timings.{in_range}
use Rattle.flux_timings.specs.Timings.{first_out, timings_judged}
use Rattle.refusals.specs.RefusedCalls.Answer.{gives, refused}
use Rattle.revolution_portions.specs.Timings.{values_of, timings_from}
use Rattle.supercard_pro.specs.TrackBlock.{revolution_timings, ends_in_zero, bad_revolution, not_a_track_block, block_judged, block_answer}

-- TRK, track 0; of each of two revolutions the index time (200 ms, in units of 25 ns), the number of values and their offset; the values
-- 160, 240 and 320, and then 0 and `final`
abbrev pub block_with : ℕ → List ℕ
block_with final =
    (84 ∷ 82 ∷ 75 ∷ 0 ∷ [])
    ++ (0 ∷ 18 ∷ 122 ∷ 0 ∷ 3 ∷ 0 ∷ 0 ∷ 0 ∷ 28 ∷ 0 ∷ 0 ∷ 0 ∷ [])
    ++ (0 ∷ 18 ∷ 122 ∷ 0 ∷ 2 ∷ 0 ∷ 0 ∷ 0 ∷ 34 ∷ 0 ∷ 0 ∷ 0 ∷ [])
    ++ (0 ∷ 160 ∷ 0 ∷ 240 ∷ 1 ∷ 64 ∷ [])
    ++ (0 ∷ 0 ∷ 0 ∷ final ∷ [])

abbrev pub block : List ℕ
block = block_with 1

pub is_block : not_a_track_block block 2 ≡ false
unfolding not_a_track_block bad_revolution least values_of ends_in_zero
is_block = refl

-- the timings of both revolutions: a 0 adds 65,536 units to the next value
pub first-timings : revolution_timings block 0 ≡ 4000 ∷ 6000 ∷ 8000 ∷ []
unfolding values_of timings_from
first-timings = refl

pub second-timings : revolution_timings block 1 ≡ 1638425 ∷ []
unfolding values_of timings_from
second-timings = refl

-- three timings into a list of three, and of two; and a third revolution
pub given-three : block_answer block 2 0 3 ≡ gives 3
unfolding block_judged not_a_track_block bad_revolution least values_of ends_in_zero timings_judged timings_from first_out in_range
given-three = refl

pub room-for-two : block_answer block 2 0 2 ≡ refused 10 3
unfolding block_judged not_a_track_block bad_revolution least values_of ends_in_zero timings_judged timings_from first_out in_range
room-for-two = refl

pub third-revolution : (room : ℕ) → block_answer block 2 2 room ≡ refused 17 0
unfolding block_judged not_a_track_block bad_revolution least values_of ends_in_zero
third-revolution room = refl

-- where the last value is a 0, no revolution is given
pub last-a-zero : (k room : ℕ) → block_answer (block_with 0) 2 k room ≡ refused 16 0
unfolding block_judged not_a_track_block bad_revolution least values_of ends_in_zero
last-a-zero k room = refl
