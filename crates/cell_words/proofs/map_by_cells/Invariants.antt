-- `cell_words::map_by_cells` meets its contract: after k cells the map is that of the places where the first k of the word stand. Assumes nothing.
use Prim.Native.Nat.{ℕ, ◌+◌, ◌-◌, ◌≤◌, ◌<◌}
use Rattle.cell_words.specs.Words.{Holds, MapOf}
use Rattle.cell_words.specs.Tests.{one_at}
use Rattle.cell_words.proofs.Tests.{front_stands}
use Rattle.cell_words.proofs.map_by_cells.Given as goal

abbrev pub invariant-loop-k : goal.invariant-loop-k
invariant-loop-k l = (1 ≤ l.k) × (l.k ≤ 16)
    × ((f : ℕ → ℕ) → ((i : ℕ) → f i < 2) → Holds (one_at f) l.words (l.m + 1) → l.m < 2116 → MapOf (front_stands f l.word 1) l.initial.map l.m → MapOf (front_stands f l.word l.k) l.map l.m)

abbrev pub decreases-loop-k : goal.decreases-loop-k
decreases-loop-k l = 16 - l.k
