-- What only the contracts of private functions need: eight places that a search can pass at once. Assumes nothing.
use Rattle.std.specs.Prelude.{ℕ, ◌+◌, ◌-◌, ◌*◌, ◌/◌, ◌%◌, ◌^◌, ◌<◌, ◌≤◌, ◌≡◌, List, get_or}

-- the eight cells from the place `at` are a byte of the track, `left` places are left to look at, and the word x of k cells, of which
-- `cells` has the last that came before `at`, stands at none of the next eight
pub record Skipped (bytes : List ℕ) (n at cells k x left : ℕ) : Type 0 where
  pub short : k ≤ 56
  pub enough : 8 ≤ left
  pub aligned : at % 8 ≡ 0
  pub whole : at + 8 ≤ n
  pub none : (j : ℕ) → j < 8 → (cells * 256 + get_or bytes (at / 8) 0) % 2 ^ 64 / 2 ^ (8 - j) % 2 ^ k ≡ x → ⊥
