-- `cell_words::least_before` meets its contract: the least place is looked for from the words that are left. Assumes nothing.
use Prim.Native.Nat.{ℕ, ◌-◌, ◌*◌, ◌≤◌}
use mathlib.Core.Path.{◌≡◌}
use mathlib.Core.Bool.{Bool}
use Rattle.basis.specs.Search.{least}
use Rattle.cell_words.specs.Words.{Holds}
use Rattle.cell_words.proofs.least_before.Given as goal

abbrev pub invariant-loop-v : goal.invariant-loop-v
invariant-loop-v l = (l.v ≤ 2116) × (l.from ≤ 64 * l.v)
    × ((t : ℕ → Bool) (m : ℕ) → Holds t l.map m → l.to ≤ 64 * m → least t (64 * m - l.from) l.from ≡ least t (64 * m - 64 * l.v) (64 * l.v))

abbrev pub decreases-loop-v : goal.decreases-loop-v
decreases-loop-v l = 2116 - l.v
