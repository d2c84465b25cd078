-- Sections 3 and 8 of the specification: the range of a flux timing, and the refusals 6 to 8 of a list of timings. The main property: a call
-- on a list of timings judges it in this way before it counts a cell. Assumes nothing.
use Rattle.std.specs.Prelude.{ℕ, suc, Bool, cond, ◌&&◌, List, [], ◌∷◌, eqb, leb, ltb, length}
use Rattle.refusals.specs.RefusedCalls.{Answer}
use Rattle.refusals.specs.RefusedCalls.Answer.{refused}

-- 3.1: a timing is in range from 1 to 10,000,000 ns
unfoldable pub in_range : ℕ → Bool
in_range t = leb 1 t && leb t 10000000

-- 8.8: the index of the first timing that is out of range; their number where there is none
unfoldable pub first_out : List ℕ → ℕ
first_out [] = 0
first_out (t ∷ ts) = cond (in_range t) (suc (first_out ts)) 0

-- 8.6, 8.7: k timings are refused with 6 where there is none, and with 7, with k beside it, where they are more than 65,536. Else `next`
-- answers
abbrev pub number_judged : {A : Type 0} → ℕ → Answer A → Answer A
number_judged k next = cond (eqb k 0) (refused 6 0) (cond (ltb 65536 k) (refused 7 k) next)

-- 8.6, 8.7, 8.8, 9.21: timings are refused with 6 or 7 for their number, and then with 8 where some timing is out of range, with the index
-- of the first beside it. Else `next` answers, so that all of them are judged before their cells are counted
unfoldable pub timings_judged : {A : Type 0} → List ℕ → Answer A → Answer A
timings_judged ts next = number_judged (length ts) (cond (ltb (first_out ts) (length ts)) (refused 8 (first_out ts)) next)
