-- The tests whose maps are made: f are the cells of a track, s and t are any tests. Assumes nothing.
use Rattle.std.specs.Prelude.{ℕ, ◌+◌, Bool, not, cond, ◌&&◌, ◌||◌, eqb}
use Rattle.cells.specs.CellsAndBytes.{word}

-- a one at q
unfoldable pub one_at : (ℕ → ℕ) → ℕ → Bool
one_at f q = eqb (f q) 1

-- t passes at q, or fails there
unfoldable pub like_at : (passes : Bool) → (ℕ → Bool) → ℕ → Bool
like_at passes t q = cond passes (t q) (not (t q))

-- t passes at q and k places on
unfoldable pub both_at : ℕ → (ℕ → Bool) → ℕ → Bool
both_at k t q = t q && t (q + k)

-- t passes at q, and s passes k places on, or fails there
unfoldable pub kept_from : ℕ → (passes : Bool) → (ℕ → Bool) → (ℕ → Bool) → ℕ → Bool
kept_from k passes s t q = t q && like_at passes s (q + k)

-- t passes at q and at neither of the next two places: of ones, the cells 100
unfoldable pub alone_at : (ℕ → Bool) → ℕ → Bool
alone_at t q = t q && not (t (q + 1) || t (q + 2))

-- with ones for s and the places of 100 for t, a one whose next one is 1 cell on, or more than 4
unfoldable pub gap_from : (ℕ → Bool) → (ℕ → Bool) → ℕ → Bool
gap_from s t q = (s q && s (q + 1)) || (t q && not (s (q + 3) || s (q + 4)))

-- t passes at q and 16 and 32 places on
unfoldable pub thrice_at : (ℕ → Bool) → ℕ → Bool
thrice_at t q = t q && (t (q + 16) && t (q + 32))

-- a word of 16 cells stands at q
unfoldable pub stands_at : (ℕ → ℕ) → ℕ → ℕ → Bool
stands_at f w q = eqb (word f 16 q) w
