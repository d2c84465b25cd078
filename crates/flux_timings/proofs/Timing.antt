-- What it means that a timing is in its range. Assumes nothing.
use Prim.Native.Nat.{ℕ, ◌≤◌}
use mathlib.Core.Path.{◌≡◌, refl}
use mathlib.Core.Bool.{Bool, true, false, ◌&&◌}
use native.Mathlib.Omega.{arith}
use borrow.Author.Tests.{leb-true, le-leb}
use lib.Dec.{leb}
use Rattle.flux_timings.specs.Timings.{in_range}

pub range-of : (t : ℕ) → in_range t ≡ true → (1 ≤ t) × (t ≤ 10000000)
unfolding in_range
range-of t e = go (leb 1 t) refl e
  where
    go : (x : Bool) → leb 1 t ≡ x → x && leb t 10000000 ≡ true → (1 ≤ t) × (t ≤ 10000000)
    go true p q = (leb-true 1 t p, leb-true t 10000000 q)
    go false p q = let z : ◌≡◌ {A = ℕ} 0 1 = cc in absurd (omega arith)

pub in-range : (t : ℕ) → 1 ≤ t → t ≤ 10000000 → in_range t ≡ true
unfolding in_range
in-range t h k = rw (le-leb 1 t h, le-leb t 10000000 k)
