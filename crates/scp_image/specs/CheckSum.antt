-- Section 19 of the specification, rules 19.13 and 19.14: the check sum of a SuperCard Pro image. n is the length of the whole image. The main property:
-- the call refuses a sum exactly where the header says another one and the image may not be written to. Assumes nothing.
use Rattle.std.specs.Prelude.{ℕ, ◌+◌, ◌%◌, cond, ◌||◌, List, [], ◌∷◌, ◌==◌}
use Rattle.refusals.specs.RefusedCalls.{Answer, refused_with}
use Rattle.refusals.specs.RefusedCalls.Answer.{gives}
use Rattle.refusals.specs.declared.Refusal.TheVariants.{ImageCheckSum}
use Rattle.scp_image.specs.Header.{flags_of, check_sum_of, may_change, header_judged}

-- all bytes, added up
unfoldable pub total : List ℕ → ℕ
total [] = 0
total (byte ∷ bytes) = byte + total bytes

-- 9.73, 19.13: the sum after a portion more, modulo 2^32
abbrev pub sum_after : ℕ → List ℕ → ℕ
sum_after sum portion = (sum + total portion) % 4294967296

-- 8.29, 9.74, 19.14: refusals 26 and 27, then 29 where the header says another sum, unless the image may be written to; else the sum
abbrev pub check_answer : (image : List ℕ) (n sum : ℕ) → Answer ℕ
check_answer image n sum =
    header_judged image n (cond (may_change (flags_of image) || sum == check_sum_of image) (gives sum) (refused_with (ImageCheckSum sum)))
