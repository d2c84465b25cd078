-- `cell_words::count_words` meets its contract: each turn counts a word more. Assumes nothing.
use Prim.Native.Nat.{ℕ, ◌-◌, ◌*◌, ◌≤◌}
use mathlib.Core.Path.{◌≡◌}
use mathlib.Core.Bool.{Bool}
use Rattle.basis.specs.Search.{count}
use Rattle.cell_words.specs.Words.{Holds}
use Rattle.cell_words.proofs.count_words.Given as goal

abbrev pub invariant-loop-w : goal.invariant-loop-w
invariant-loop-w l = (l.found ≤ 64 * (l.w - l.a)) × ((t : ℕ → Bool) (m : ℕ) → Holds t l.map m → l.b ≤ m → l.found ≡ count t (64 * (l.w - l.a)) (64 * l.a))
