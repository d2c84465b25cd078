-- Section 12 of the specification: one track block of a SuperCard Pro image, as a whole.
--
--   letters    track number    table: for each revolution                                          values
--   T R K      1 byte          index time       number of values      offset from block's start    2 bytes each, high byte first
--                              4 bytes          4 bytes               4 bytes, low byte first
--
-- A revolution's values stand where its offset says. The main property: the call gives the timings of one revolution, or a refusal.
-- Assumes nothing.
use Rattle.std.specs.Prelude.{ℕ, ◌+◌, ◌*◌, Bool, false, cond, not, ◌&&◌, ◌||◌, List, [], ◌∷◌, eqb, ltb, length, get_or, take, drop}
use Rattle.basis.specs.Bytes.{number}
use Rattle.basis.specs.Search.{least}
use Rattle.flux_timings.specs.Timings.{timings_judged}
use Rattle.refusals.specs.RefusedCalls.{Answer, buffer_after}
use Rattle.refusals.specs.RefusedCalls.Answer.{refused}
use Rattle.revolution_portions.specs.Portions.{room_judged}
use Rattle.revolution_portions.specs.Timings.{values_of, timings_in}

-- 12.1, 12.2: from the table's twelve bytes of revolution k, which begin at 4 + 12 k: how many values it has, and at which byte of the
-- block they begin. The index time before them is not used (rule 12.14)
abbrev pub value_count : List ℕ → ℕ → ℕ
value_count block k = number (drop (8 + 12 * k) block)

abbrev pub value_offset : List ℕ → ℕ → ℕ
value_offset block k = number (drop (12 + 12 * k) block)

-- 12.3: where the table of so many revolutions ends, after three letters and a track number
abbrev pub table_end : ℕ → ℕ
table_end revolutions = 4 + 12 * revolutions

-- 12.4: the bytes of a revolution's values
abbrev pub value_bytes : List ℕ → ℕ → List ℕ
value_bytes block k = take (2 * value_count block k) (drop (value_offset block k) block)

-- 12.13: the timings of a revolution
abbrev pub revolution_timings : List ℕ → ℕ → List ℕ
revolution_timings block k = timings_in (value_bytes block k)

-- 12.11: the last of some values is a 0
unfoldable pub ends_in_zero : List ℕ → Bool
ends_in_zero [] = false
ends_in_zero (value ∷ []) = eqb value 0
ends_in_zero (value ∷ next ∷ values) = ends_in_zero (next ∷ values)

-- 12.9: the first three bytes are not `TRK`, or are not all there
abbrev pub other_letters : List ℕ → Bool
other_letters block = not (eqb (get_or block 0 0) 84 && (eqb (get_or block 1 0) 82 && eqb (get_or block 2 0) 75))

-- 12.10: the block ends before the table does
abbrev pub table_short : List ℕ → ℕ → Bool
table_short block revolutions = ltb (length block) (table_end revolutions)

-- 12.11: the values of revolution k begin before the table's end, or end after the block's, or the last of them is a 0. Where it has no
-- values, they begin and end at its offset
unfoldable pub bad_revolution : List ℕ → ℕ → ℕ → Bool
bad_revolution block revolutions k =
    ltb (value_offset block k) (table_end revolutions)
    || (ltb (length block) (value_offset block k + 2 * value_count block k) || ends_in_zero (values_of (value_bytes block k)))

-- 12.11: that holds of some revolution: the first of which it does is one of them
abbrev pub some_bad : List ℕ → ℕ → Bool
some_bad block revolutions = ltb (least (bad_revolution block revolutions) revolutions 0) revolutions

-- 8.16, 12.8, 12.14: the bytes are no track block. Nothing but this is asked of them
unfoldable pub not_a_track_block : List ℕ → ℕ → Bool
not_a_track_block block revolutions = other_letters block || (table_short block revolutions || some_bad block revolutions)

-- 8.16, 8.17, 12.12: 16 for bytes that are no track block, then 17 for a revolution that is not in it, and else what `next` answers
unfoldable pub block_judged : {A : Type 0} → List ℕ → ℕ → ℕ → Answer A → Answer A
block_judged block revolutions k next = cond (not_a_track_block block revolutions) (refused 16 0) (cond (ltb k revolutions) next (refused 17 0))

-- 9.14, 12.13: refusals 16 and 17, then 6, 7 and 8 as for the separator, then 10; else the number of timings
abbrev pub block_answer : List ℕ → ℕ → ℕ → ℕ → Answer ℕ
block_answer block revolutions k room =
    block_judged block revolutions k (timings_judged (revolution_timings block k) (room_judged (length (revolution_timings block k)) room))

-- 9.14, 12.13: the lent list afterwards: the timings of revolution k at its front, and what follows kept; beside a refusal all of it is
-- kept
abbrev pub block_timings : List ℕ → ℕ → ℕ → List ℕ → List ℕ
block_timings block revolutions k list = buffer_after (block_answer block revolutions k (length list)) (revolution_timings block k) list
