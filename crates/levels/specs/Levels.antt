-- Section 7 of the specification, rule 7.33: the table of levels. The main property: every finding, of a track or of two reads, takes its
-- level from it. Assumes nothing.
use Rattle.std.specs.Prelude.{ℕ, List, [], ◌∷◌}

-- 7.33: the levels of the kinds, from kind 1 to kind 22
unfoldable pub levels : List ℕ
levels = 1 ∷ 1 ∷ 3 ∷ 2 ∷ 2 ∷ 1 ∷ 1 ∷ 2 ∷ 2 ∷ 2 ∷ 2 ∷ 2 ∷ 1 ∷ 1 ∷ 1 ∷ 1 ∷ 1 ∷ 1 ∷ 3 ∷ 3 ∷ 1 ∷ 1 ∷ []
