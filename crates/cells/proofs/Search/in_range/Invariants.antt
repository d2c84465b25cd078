-- `Search::in_range` meets its contract: at p the last k cells carried along are the word there, and no place before p has the word looked for.
-- Assumes nothing.
use Prim.Native.Nat.{ℕ, ◌+◌, ◌-◌, ◌%◌, ◌^◌, ◌≤◌, ◌<◌}
use mathlib.Core.Path.{◌≡◌}
use mathlib.Core.List.{List}
use Rattle.cells.specs.CellsAndBytes.{cell, word, least_place}
use Rattle.cells.proofs.Search.in_range.Given as goal

pub record Searched (bytes : List ℕ) (n x k from to cells at p : ℕ) : Type 0 where
  pub after : from ≤ p
  pub before : p ≤ to
  pub carried : cells % 2 ^ k ≡ word (cell bytes n) k p
  pub place : at ≡ (p + k) % n
  pub inside : at < n
  pub same : least_place bytes n k x p to ≡ least_place bytes n k x from to

abbrev pub invariant-loop-p : goal.invariant-loop-p
invariant-loop-p l = Searched l.self.cells.bytes.now l.self.cells.count l.self.x l.self.k l.from l.to l.so_far l.at l.p

abbrev pub decreases-loop-p : goal.decreases-loop-p
decreases-loop-p l = l.to - l.p
