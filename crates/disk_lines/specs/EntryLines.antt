-- Section 16 of the specification, rule 16.14: the line of an entry of a disk's page, as bytes, made of numbers alone.
--
--   T05 H0 3 NOS level 3 place 0 detail 12            a finding of one track
--   T05-07 H1 4 TNF level 2 place 0 detail 0          TNF of tracks that follow each other
--
-- Assumes nothing.
use Rattle.std.specs.Prelude.{ℕ, cond, List, [], ◌∷◌, ◌++◌, ltb}
use Rattle.lines.specs.Lines.{bytes_of, digit, two_digits, finding_line}

-- 16.14: what stands before the line of a finding on the tracks T to U of side H: the track in two digits, and where U is greater both tracks, then
-- the side in one digit, as in `T05 H0 ` and `T74-79 H0 `. Of a number with more digits they are the last ones
unfoldable pub start_of : (H T U : ℕ) → List ℕ
start_of H T U = bytes_of "T" ++ two_digits T ++ cond (ltb T U) (bytes_of "-" ++ two_digits U) [] ++ bytes_of " H" ++ (digit H ∷ []) ++ bytes_of " "

-- 16.14: the line of an entry: what stands before it, and the line of the finding
unfoldable pub entry_line : (H T U kind level place detail : ℕ) → List ℕ
entry_line H T U kind level place detail = start_of H T U ++ finding_line kind level place detail
