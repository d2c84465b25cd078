-- Section 5 of the specification: the histogram of timings, 256 counts. The main property, rule 5.3: they add up to the number of timings
-- (`counts-sum`, in proofs/Counts). Assumes nothing.
use Rattle.std.specs.Prelude.{ℕ, ◌+◌, ◌/◌, min, cond, List, [], ◌∷◌, eqb, length, replicate, Result, Ok, Err}
use Rattle.basis.specs.Lists.{listed}
use Rattle.refusals.specs.RefusedCalls.{Answer}
use Rattle.refusals.specs.RefusedCalls.Answer.{gives, refused}
use Rattle.refusals.specs.declared.Refusal.{Refusal}
use Rattle.flux_timings.specs.Timings.{timings_judged}
use Rattle.histogram.specs.declared.Histogram.{Histogram}

-- 5.2: the count that a timing raises: one for every 100 ns, and the last for all from 25,500 ns on
abbrev pub bin_of : ℕ → ℕ
bin_of t = min (t / 100) 255

-- 5.1, 5.2: how many of the timings raise count i; it is 0 before any is counted
unfoldable pub count_of : List ℕ → ℕ → ℕ
count_of [] i = 0
count_of (t ∷ ts) i = cond (eqb (bin_of t) i) 1 0 + count_of ts i

-- 5.1: the 256 counts, from count 0 on
unfoldable pub counts_of : List ℕ → List ℕ
counts_of ts = listed (count_of ts) 256

-- 5.3: counts added up
unfoldable pub sum_of : List ℕ → ℕ
sum_of [] = 0
sum_of (x ∷ xs) = x + sum_of xs

-- 9.7: the call's answer: the timings are judged by 6, 7 and 8, and else their number is given
abbrev pub counting : List ℕ → Answer ℕ
counting ts = timings_judged ts (gives (length ts))

-- 5.1, 8.32, 9.7: the counts that the call gives. Beside a refusal all are 0
unfoldable pub counts_after : Answer ℕ → List ℕ → List ℕ
counts_after (gives count) ts = counts_of ts
counts_after (refused number value) ts = replicate 256 0

-- 5.1, 8.32: the counts of what the call gives. Beside a refusal all are 0
abbrev pub counts_given : Result Histogram Refusal → List ℕ
counts_given (Ok histogram) = histogram.counts
counts_given (Err refusal) = replicate 256 0

-- 5.3: what these counts add up to: the number of timings, or 0 beside a refusal
unfoldable pub sum_after : Answer ℕ → List ℕ → ℕ
sum_after (gives count) ts = length ts
sum_after (refused number value) ts = 0
