-- Section 14 of the specification, rules 14.1 to 14.5: two reads of one sector compared. A read is a list of bytes:
--
--   L data bytes                                    two check bytes: high, low          L is 128, 256, 512 or 1,024
--
-- The main property: FZD stands exactly where the reads differ, with the first byte that differs and all bits that do. Assumes nothing.
use Rattle.std.specs.Prelude.{ℕ, zero, suc, ◌+◌, Bool, cond, not, ◌||◌, List, [], ◌∷◌, eqb, ltb, length, get_or, Result, Ok, Err, Option, Some, None}
use Rattle.std.specs.Int.Bits.{bit_xor}
use Rattle.std.specs.Int.Count.{ones}
use Rattle.basis.specs.Search.{least}
use Rattle.levels.specs.Levels.{levels}
use Rattle.refusals.specs.RefusedCalls.{Answer, refused_with}
use Rattle.refusals.specs.RefusedCalls.Answer.{gives, refused}
use Rattle.refusals.specs.declared.Refusal.{Refusal}
use Rattle.refusals.specs.declared.Refusal.TheVariants.{LengthsDiffer, NotASectorLength}

-- 14.1: a read has 130, 258, 514 or 1,026 bytes
unfoldable pub is_read_length : ℕ → Bool
is_read_length n = eqb n 130 || eqb n 258 || eqb n 514 || eqb n 1026

-- 14.2: two reads are refused with 18 where their lengths differ, and then with 19 where their length is not that of a read. Else `next`
-- answers
unfoldable pub pair_judged : {A : Type 0} → (first second : List ℕ) → Answer A → Answer A
pair_judged first second next =
    cond (eqb (length first) (length second)) (cond (is_read_length (length first)) next (refused_with NotASectorLength)) (refused_with LengthsDiffer)

-- 14.3: the reads differ at index i
abbrev pub differ_at : (first second : List ℕ) → ℕ → Bool
differ_at first second i = not (eqb (get_or first i 0) (get_or second i 0))

-- 14.3: the least index at which the reads differ; the number of bytes where there is none
unfoldable pub first_difference : (first second : List ℕ) → ℕ
first_difference first second = least (differ_at first second) (length first) 0

-- 14.4: how many bits differ: two bytes are combined by exclusive or, and the ones of all of them are summed
unfoldable pub differing_bits : (first second : List ℕ) → ℕ
differing_bits [] second = 0
differing_bits (a ∷ first) [] = 0
differing_bits (a ∷ first) (b ∷ second) = ones (bit_xor a b) + differing_bits first second

-- 14.3, 9.51: how many findings two reads have, where they are accepted: one where some byte differs, and else none
unfoldable pub comparison : (first second : List ℕ) → Answer ℕ
comparison first second = pair_judged first second (gives (cond (ltb (first_difference first second) (length first)) 1 0))

-- 14.3, 14.4, 7.33: the four numbers of FZD: kind 22, the level of that kind, the first byte that differs, and how many bits differ
unfoldable pub fuzzy_numbers : (first second : List ℕ) → List ℕ
fuzzy_numbers first second = 22 ∷ get_or levels 21 0 ∷ first_difference first second ∷ differing_bits first second ∷ []

-- 14.5: the four numbers that are given: those of the finding, or zeros where there is none or the call is refused
abbrev pub numbers_given : Answer ℕ → List ℕ → List ℕ
numbers_given (gives zero) numbers = 0 ∷ 0 ∷ 0 ∷ 0 ∷ []
numbers_given (gives (suc n)) numbers = numbers
numbers_given (refused number value) numbers = 0 ∷ 0 ∷ 0 ∷ 0 ∷ []

-- 8.33: how many findings a call gives
abbrev pub findings_in : Option (List ℕ) → ℕ
findings_in None = 0
findings_in (Some _) = 1

-- 14.5: the numbers that a call gives, with zeros where there is no finding or the call is refused
abbrev pub numbers_in : Result (Option (List ℕ)) Refusal → List ℕ
numbers_in (Ok (Some numbers)) = numbers
numbers_in (Ok None) = 0 ∷ 0 ∷ 0 ∷ 0 ∷ []
numbers_in (Err _) = 0 ∷ 0 ∷ 0 ∷ 0 ∷ []
