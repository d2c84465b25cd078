-- What only the contracts of private functions need: the steps by which the map of 4489 is made. s and t are any tests. Assumes nothing.
use Rattle.std.specs.Prelude.{ℕ, ◌+◌, Bool, not, ◌&&◌}

-- with ones for s and the places of 100 for t, the cells 1000100
unfoldable pub seven_from : (ℕ → Bool) → (ℕ → Bool) → ℕ → Bool
seven_from s t q = t q && (not (s (q + 3)) && t (q + 4))

-- with ones for s and the places of 1000100 for t, the cells 0 1000100 1000100 1, which are 4489
unfoldable pub sync_from : (ℕ → Bool) → (ℕ → Bool) → ℕ → Bool
sync_from s t q = (t (q + 1) && t (q + 8)) && (s (q + 15) && not (s q))
