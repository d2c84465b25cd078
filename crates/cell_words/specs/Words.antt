-- A test at 64 places of a track as a number of 64 bits, and lists of such numbers: the map of a test. Assumes nothing.
--
--   word       0                1                  2
--   bit        63 62 ..   0     63 62 ..     0     63 ..
--   place       0  1 ..  63     64 65 ..   127    128 ..
use Rattle.std.specs.Prelude.{ℕ, ◌*◌, ◌<◌, ◌≡◌, Bool, cond, List, length, get_or}
use Rattle.cells.specs.CellsAndBytes.{word}

-- a test as a cell: 1 where it passes
unfoldable pub digit : (ℕ → Bool) → ℕ → ℕ
digit t p = cond (t p) 1 0

-- a test at the k places from p, as the word of these cells (1.6)
unfoldable pub mask : (ℕ → Bool) → ℕ → ℕ → ℕ
mask t k p = word (digit t) k p

-- a list whose first m words say of each place from 0 to 64 m - 1 whether a test passes there
unfoldable pub Holds : (ℕ → Bool) → List ℕ → ℕ → Type 0
Holds t words m = (w : ℕ) → w < m → get_or words w 0 ≡ mask t 64 (64 * w)

-- a map as it is lent: an array of 2,116 words, of which the first m hold a test. Its length is said here since a contract does not learn it from
-- the type
abbrev pub MapOf : (ℕ → Bool) → List ℕ → ℕ → Type 0
MapOf t words m = (length words ≡ 2116) × Holds t words m
