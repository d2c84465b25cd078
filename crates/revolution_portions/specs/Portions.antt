-- Section 12 of the specification, rules 12.15 to 12.19 and 12.22: a revolution's values in portions: a call on one, and calls one after
-- another. The main property: where none is refused, the timings of all calls are those of all bytes, however these are cut (`AllTimings`).
-- Assumes nothing.
use Rattle.std.specs.Prelude.{ℕ, ◌+◌, ◌≡◌, Bool, cond, ◌&&◌, List, [], ◌++◌, leb, ltb, length, take}
use Rattle.flux_timings.specs.Timings.{first_out}
use Rattle.refusals.specs.RefusedCalls.{Answer, buffer_after}
use Rattle.refusals.specs.RefusedCalls.Answer.{gives, refused}
use Rattle.revolution_values.specs.Values.{unfinished_after, timings_ending, between}
use Rattle.revolution_portions.specs.Timings.{timings_in}
use Rattle.revolution_portions.specs.declared.RevolutionReader.{RevolutionReader}

-- 12.16: before the first byte: no byte is held, no zeros stand before the next value, no timing has ended
abbrev pub fresh_reader : RevolutionReader
fresh_reader = record { unfinished = between 0; timings = 0 }

-- 12.19: the states that calls leave: at most 7 zeros counted, and at most 65,536 timings, since more are refused with 7. That calls from a
-- fresh reader on leave these and no others is `left-exactly`, in proofs/Laws
unfoldable pub is_left_by_calls : RevolutionReader → Bool
is_left_by_calls reader = leb reader.unfinished.zeros 7 && leb reader.timings 65536

-- 12.19: any other state is taken for a fresh one
unfoldable pub usable_reader : RevolutionReader → RevolutionReader
usable_reader reader = cond (is_left_by_calls reader) reader fresh_reader

-- 8.10, 12.13, 12.17: a list with this room is too short for so many timings; else their number is given
abbrev pub room_judged : ℕ → ℕ → Answer ℕ
room_judged count room = cond (ltb room count) (refused 10 count) (gives count)

-- 12.17, 12.23: a portion in which the timings ts end, after so many others: 7 for all of them together, 8 with the index from the
-- revolution's start, 10 for those of the portion. What is unfinished at its end is not asked for
unfoldable pub portion_judged : ℕ → List ℕ → ℕ → Answer ℕ
portion_judged before ts room =
    cond (ltb 65536 (before + length ts)) (refused 7 (before + length ts))
    (cond (ltb (first_out ts) (length ts)) (refused 8 (before + first_out ts)) (room_judged (length ts) room))

-- 12.15: the timings that end in a portion
abbrev pub portion_timings : RevolutionReader → List ℕ → List ℕ
portion_timings reader portion = timings_ending (usable_reader reader).unfinished portion

-- 9.15, 12.17: the answer of a call on a portion
abbrev pub portion_answer : RevolutionReader → List ℕ → ℕ → Answer ℕ
portion_answer reader portion room = portion_judged (usable_reader reader).timings (portion_timings reader portion) room

-- 12.16, 12.18: the state after a call; beside a refusal it is the one that came
unfoldable pub reader_left : Answer ℕ → RevolutionReader → List ℕ → RevolutionReader
reader_left (gives count) reader portion =
    record { unfinished = unfinished_after (usable_reader reader).unfinished portion; timings = (usable_reader reader).timings + count }
reader_left (refused number value) reader portion = reader

-- 12.16, 12.18: the same, for a list with this room
abbrev pub portion_reader : RevolutionReader → List ℕ → ℕ → RevolutionReader
portion_reader reader portion room = reader_left (portion_answer reader portion room) reader portion

-- 9.15, 12.15, 12.18: the lent list after a call: the timings at its front; beside a refusal all of it is kept
abbrev pub portion_list : RevolutionReader → List ℕ → List ℕ → List ℕ
portion_list reader portion list = buffer_after (portion_answer reader portion (length list)) (portion_timings reader portion) list

-- 12.22: calls on portions from a fresh reader on, none of them refused: the reader that they left, all bytes that they were handed, and
-- all timings that they gave, in order
pub data Calls : RevolutionReader → List ℕ → List ℕ → Type 0 where
  none : Calls fresh_reader [] []
  more : {reader : RevolutionReader} {bytes given : List ℕ} (portion : List ℕ) (room count : ℕ)
      → Calls reader bytes given → portion_answer reader portion room ≡ gives count
      → Calls (portion_reader reader portion room) (bytes ++ portion) (given ++ portion_timings reader portion)

-- 12.22: what a call promises that takes a reader and a portion, and leaves a list: with all calls before it, it has given the timings of
-- all bytes so far. So where these are the bytes of a revolution, it is `revolution_timings` that they gave, as the whole call does
pub record AllTimings (reader : RevolutionReader) (portion : List ℕ) (answer : Answer ℕ) (list : List ℕ) : Type 0 where
  pub same : (bytes given : List ℕ) → Calls reader bytes given → (count : ℕ) → answer ≡ gives count → given ++ take count list ≡ timings_in (bytes ++ portion)
