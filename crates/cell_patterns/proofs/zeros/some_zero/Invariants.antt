-- `cell_patterns::zeros::some_zero` meets its contract. Assumes nothing.
use Prim.Native.Nat.{ℕ, ◌<◌}
use mathlib.Core.Path.{◌≡◌}
use mathlib.Core.Bool.{false}
use lib.ListN.{get_or}
use Rattle.cell_patterns.proofs.zeros.some_zero.Given as goal

abbrev pub invariant-loop-word : goal.invariant-loop-word
invariant-loop-word l = l.some ≡ false → (v : ℕ) → v < l.word-index → get_or l.words v 0 ≡ 0 → ⊥
