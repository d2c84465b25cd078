-- `Search::stands_in` meets its contract. At j, none of the places before passes. Assumes nothing.
use Prim.Native.Nat.{ℕ, ◌-◌, ◌/◌, ◌%◌, ◌^◌, ◌<◌}
use mathlib.Core.Path.{◌≡◌}
use Rattle.cells.proofs.Search.stands_in.Given as goal

abbrev pub invariant-loop-j : goal.invariant-loop-j
invariant-loop-j l = (i : ℕ) → i < l.j → l.so_far / 2 ^ (8 - i) % 2 ^ l.self.k ≡ l.self.x → ⊥
