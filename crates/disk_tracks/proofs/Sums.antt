-- How many findings the first tracks have. Assumes nothing.
use Prim.Native.Nat.{ℕ, zero, suc, ◌+◌, ◌-◌, ◌<◌, ◌≤◌}
use mathlib.Core.Path.{◌≡◌, refl}
use mathlib.Core.List.{List}
use native.Mathlib.Numerals.{add-one}
use native.Mathlib.Omega.{arith}
use Rattle.disk_tracks.specs.Given.{own_at, before}

module _ (tracks : List ℕ) where
  pub before-none : before tracks 0 ≡ 0
  unfolding before
  before-none = refl

  pub before_more : (i : ℕ) → before tracks (i + 1) ≡ before tracks i + own_at tracks i
  unfolding before
  before_more i = rw add-one

  pub before-grows : (i n : ℕ) → i ≤ n → before tracks i ≤ before tracks n
  unfolding before
  before-grows i n h = let e : i + (n - i) ≡ n = omega arith in rw e at (go (n - i))
    where
      go : (k : ℕ) → before tracks i ≤ before tracks (i + k)
      go zero = let e : i + 0 ≡ i = omega arith in rw e (omega arith)
      go (suc k) = let e : i + suc k ≡ suc (i + k) = omega arith in rw e (omega (arith, go k))

  -- the findings of track i stand among those of the first n
  pub own-within : (i n : ℕ) → i < n → before tracks i + own_at tracks i ≤ before tracks n
  own-within i n h = omega (arith, before_more i, before-grows (i + 1) n (omega arith))
