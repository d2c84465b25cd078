-- Section 14 of the specification, rules 14.6 to 14.9: the part of a read whose check is good. The main property: what is handed back is a
-- part of the first or of the second lent read, it begins where that read begins, and it is as long as stated. Assumes nothing.
use Rattle.std.specs.Prelude.{ℕ, ◌+◌, ◌-◌, ◌*◌, Bool, true, false, cond, List, ◌∷◌, ◌≡◌, eqb, length, get_or, take, Result}
use Rattle.std.specs.Borrow.{Bor}
use Rattle.crc.specs.CheckWord.{check_word}
use Rattle.refusals.specs.RefusedCalls.{Answer, answer_by}
use Rattle.refusals.specs.RefusedCalls.Answer.{gives, refused}
use Rattle.refusals.specs.declared.Refusal.{Refusal}
use Rattle.two_reads.specs.Comparison.{pair_judged}
use Rattle.two_reads.specs.declared.GoodPart.{GoodPart}

-- 14.1: how many data bytes a read has: all but its two check bytes
abbrev pub data_bytes : List ℕ → ℕ
data_bytes read = length read - 2

-- 14.6: the check of a read is good where its check bytes, the high one first, are the check word of A1 A1 A1, the data mark and the data
-- bytes
unfoldable pub check_is_good : (read : List ℕ) → (mark : ℕ) → Bool
check_is_good read mark =
    eqb (check_word (0xA1 ∷ 0xA1 ∷ 0xA1 ∷ mark ∷ take (data_bytes read) read))
    (get_or read (data_bytes read) 0 * 256 + get_or read (data_bytes read + 1) 0)

-- 14.7: a part of one of two reads: whether it is of the second, and how many of that read's first bytes
pub record Part : Type 0 where
  pub second : Bool
  pub count : ℕ

-- 14.7: the empty part: the first 0 bytes of the first read
abbrev pub empty_part : Part
empty_part = record { second = false; count = 0 }

-- 14.7: the data bytes of the first read where its check is good, else those of the second where its is, else the empty part
unfoldable pub good_part_of : (first second : List ℕ) → (mark : ℕ) → Part
good_part_of first second mark =
    cond (check_is_good first mark) (record { second = false; count = data_bytes first })
    (cond (check_is_good second mark) (record { second = true; count = data_bytes second }) empty_part)

-- 14.7, 9.52: what the call answers: a part, or the refusal of the comparison
unfoldable pub part_answer : (first second : List ℕ) → (mark : ℕ) → Answer Part
part_answer first second mark = pair_judged first second (gives (good_part_of first second mark))

-- 8.33: an answer of the code, as the numbers of the rules
abbrev pub good_part_answer : Result GoodPart Refusal → Answer Part
good_part_answer = answer_by (λ part. record { second = part.second; count = part.count })

-- 14.8: the part that is handed back: the one of the answer, and the empty one beside a refusal
abbrev pub part_given : Answer Part → Part
part_given (gives part) = part
part_given (refused number value) = empty_part

-- 14.9: a slice is that part of two lent reads: it begins at the address at which the read begins, and it has as many of its bytes
pub record IsPart (slice first second : Bor (List ℕ)) (part : Part) : Type 0 where
  pub begins : slice.ref_ptr ≡ (cond part.second second first).ref_ptr
  pub bytes : slice.now ≡ take part.count (cond part.second second first).now
