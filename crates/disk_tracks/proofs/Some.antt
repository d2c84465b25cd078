-- What `some` means, and a turn of a loop that looks for it. Assumes nothing.
use Rattle.std.proofs.Common.{ℕ, zero, suc, ◌+◌, ◌<◌, ◌≡◌, Bool, true, false, ◌||◌, refl, arith}
use native.Mathlib.Decide.{ℕ_discrete}
use native.Mathlib.Numerals.{add-one}
use Rattle.basis.proofs.Bools.{or_left, or_right}
use Rattle.disk_tracks.specs.Given.{some}

or-true : (a : Bool) → (a || true) ≡ true
or-true true = refl
or-true false = refl

module _ (test : ℕ → Bool) where
  -- one that passes
  pub some_hit : (n i : ℕ) → i < n → test i ≡ true → some test n ≡ true
  unfolding some
  some_hit zero i h e = absurd (omega arith)
  some_hit (suc n) i h e = go (ℕ_discrete i n) (some_hit n i)
    where
      go : Dec (i ≡ n) → (i < n → test i ≡ true → some test n ≡ true) → (some test n || test n) ≡ true
      go (yes s) before = rw (← s, e) (or-true (some test i))
      go (no s) before = rw (before (omega arith) e)

  -- where none passes, none passes below
  pub none-at : (n i : ℕ) → i < n → some test n ≡ false → test i ≡ false
  unfolding some
  none-at zero i h e = absurd (omega arith)
  none-at (suc n) i h e = go (ℕ_discrete i n) (none-at n i)
    where
      go : Dec (i ≡ n) → (i < n → some test n ≡ false → test i ≡ false) → test i ≡ false
      go (yes s) before = rw s (or_right (some test n) (test n) e)
      go (no s) before = before (omega arith) (or_left (some test n) (test n) e)

  -- none of the first ones passes, nor does the next
  pub none_more : (i : ℕ) → some test i ≡ false → test i ≡ false → some test (i + 1) ≡ false
  unfolding some
  none_more i before e = rw (add-one i, before) e
