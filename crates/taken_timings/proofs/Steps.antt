-- A count that stays below what no file reaches. Assumes nothing.
use Prim.Native.Nat.{ℕ, ◌+◌, ◌<◌}
use mathlib.Core.Path.{◌≡◌}
use borrow.Author.Tests.{lt-ltb}
use Rattle.taken_timings.specs.Timings.{count_after}

pub count-more : (count more : ℕ) → count < 1000000000 → count + more ≡ count_after count more
unfolding count_after
count-more count more h = rw (lt-ltb count 1000000000 h)
