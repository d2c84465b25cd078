-- Section 9 of the specification, rules 9.34, 9.35, 9.53 and 9.55: the list that a caller from C lends for a record, for counts or for the finding
-- of two reads, after the call. The main property: it gets as much as it has room for, and all zeros beside a refusal. Assumes nothing.
use Rattle.std.specs.Prelude.{ℕ, ◌%◌, List, length, take}
use Rattle.basis.specs.Lists.{written_over}
use Rattle.histogram.specs.Histogram.{counting, counts_after}
use Rattle.layouts.specs.declared.Layout.{Layout}
use Rattle.sectors.specs.Calls.{index_answer, record_beside, sector_of}
use Rattle.telling.specs.Numbers.{sector_numbers}
use Rattle.two_reads.specs.Comparison.{comparison, fuzzy_numbers, numbers_given}

-- 8.32, 9.35: a list lent for counts after the histogram's call: the 256 counts at its front, or as many as it has room for
abbrev pub counts_lent : List ℕ → List ℕ → List ℕ
counts_lent timings counts = written_over (take (length counts) (counts_after (counting timings) timings)) counts

-- 8.32, 9.34: a list lent for a record after the call of a sector by index: the thirteen numbers at its front, or as many as it has room for
abbrev pub record_lent : Layout → List ℕ → (N T H index : ℕ) → List ℕ → List ℕ
record_lent layout bytes N T H index list =
    written_over (take (length list) (sector_numbers (record_beside (index_answer layout bytes N T H index) (sector_of layout bytes N index)))) list

-- 8.32, 9.53: a list lent for the finding of two reads after their comparison: its four numbers at the front, or as many as there is room for
abbrev pub finding_lent : (first second : List ℕ) → List ℕ → List ℕ
finding_lent first second list = written_over (take (length list) (numbers_given (comparison first second) (fuzzy_numbers first second))) list

-- 9.55: what counts of a number that is given as a data mark: its low byte
abbrev pub low_byte : ℕ → ℕ
low_byte mark = mark % 256
