-- Section 12 of the specification, rule 12.24: the reader of a revolution's values as one number, for callers that cannot hold it: the byte
-- that is held, the zeros before the next value and the timings that have ended.
--
--   number = held + 257 * (zeros + 8 * timings)          held is 0 where no byte is, and else one more than the byte
--
-- A fresh reader is 0, and each number stands for one reader. The main property: however the bytes are cut, calls that keep the reader as a
-- number give the timings of all bytes (`AllByNumber`). Assumes nothing.
use Rattle.std.specs.Prelude.{ℕ, ◌+◌, ◌-◌, ◌*◌, ◌/◌, ◌%◌, ◌≡◌, cond, List, [], ◌++◌, eqb, take, Option, Some, None}
use Rattle.basis.specs.Bytes.{AreBytes}
use Rattle.refusals.specs.RefusedCalls.{Answer}
use Rattle.refusals.specs.RefusedCalls.Answer.{gives, refused}
use Rattle.revolution_portions.specs.Timings.{timings_in}
use Rattle.revolution_portions.specs.Portions.{usable_reader, portion_timings, portion_answer, portion_reader}
use Rattle.revolution_portions.specs.declared.RevolutionReader.{RevolutionReader}

-- 12.24: what is held as a number, and back
abbrev pub held_number : Option ℕ → ℕ
held_number None = 0
held_number (Some high) = high + 1

abbrev pub held_from : ℕ → Option ℕ
held_from n = cond (eqb n 0) None (Some (n - 1))

-- 12.24: the three parts in one number
abbrev pub number_of_parts : RevolutionReader → ℕ
number_of_parts reader = held_number reader.unfinished.held + 257 * (reader.unfinished.zeros + 8 * reader.timings)

-- 12.19, 12.24: the number of a reader. A state that calls cannot leave is taken for a fresh one
unfoldable pub number_of_reader : RevolutionReader → ℕ
number_of_reader reader = number_of_parts (usable_reader reader)

-- 12.24: the reader of a number
unfoldable pub reader_of_number : ℕ → RevolutionReader
reader_of_number n = record { unfinished = record { held = held_from (n % 257); zeros = n / 257 % 8 }; timings = n / 257 / 8 }

-- 12.24: a number that is kept from call to call, after a call that answers so and leaves the reader `next`: its number, or, beside a
-- refusal, the one that came
abbrev pub number_kept : Answer ℕ → ℕ → RevolutionReader → ℕ
number_kept (gives count) n next = number_of_reader next
number_kept (refused number value) n next = n

-- 12.22, 12.24: calls on portions from the number 0 on, none of them refused: the number that they left, all bytes that they were handed,
-- and all timings that they gave, in order
pub data NumberCalls : ℕ → List ℕ → List ℕ → Type 0 where
  none : NumberCalls 0 [] []
  more : {n : ℕ} {bytes given : List ℕ} (portion : List ℕ) (room count : ℕ)
      → NumberCalls n bytes given → AreBytes portion → portion_answer (reader_of_number n) portion room ≡ gives count
      → NumberCalls (number_kept (gives count) n (portion_reader (reader_of_number n) portion room)) (bytes ++ portion)
      (given ++ portion_timings (reader_of_number n) portion)

-- 12.22, 12.24: what a call promises that is lent the number n, takes a portion and leaves a list, as `AllTimings` has it of the reader
-- itself
pub record AllByNumber (n : ℕ) (portion : List ℕ) (answer : Answer ℕ) (list : List ℕ) : Type 0 where
  pub same : (bytes given : List ℕ) → NumberCalls n bytes given → (count : ℕ) → answer ≡ gives count → given ++ take count list ≡ timings_in (bytes ++ portion)
