-- `cell_words::like_word` meets its contract. Assumes nothing.
use Prim.Native.Nat.{ℕ, ◌-◌, ◌^◌}
use mathlib.Core.Path.{◌≡◌}
use mathlib.Core.Bool.{Bool, true, false}
use Rattle.cell_words.specs.Words.{mask}
use Rattle.cell_words.specs.Tests.{like_at}
use Rattle.cell_words.proofs.Words.{Is, neg}
use Rattle.cell_words.proofs.like_word.Goals as goal

passing : (b : Bool) (t : ℕ → Bool) (p x : ℕ) → b ≡ true → x ≡ mask t 64 p → x ≡ mask (like_at b t) 64 p
unfolding like_at
passing b t p x e h = rw e h

failing : (b : Bool) (t : ℕ → Bool) (p x : ℕ) → b ≡ false → x ≡ mask t 64 p → (2 ^ 64 - 1) - x ≡ mask (like_at b t) 64 p
unfolding like_at
failing b t p x e h = let i : Is t p x = record { is = h } in rw e (neg i).is

pub returns-then-passes : goal.returns-then-passes
returns-then-passes c t p h = passing _ t p _ c.if-passes.true h

pub returns-else-passes : goal.returns-else-passes
returns-else-passes c t p h = failing _ t p _ c.if-passes.false h
