-- Where the reader stands after a timing: the two branches of the code. Assumes nothing.
use Prim.Native.Nat.{ℕ, ◌-◌, ◌≤◌, ◌<◌}
use mathlib.Core.Path.{◌≡◌}
use borrow.Author.Tests.{lt-ltb, le-ltb}
use Rattle.std.specs.Prelude.{Result}
use Rattle.taken_timings.specs.declared.Taken.{Taken}
use Rattle.file_reader.specs.declared.Place.{Place}
use Rattle.file_reader.specs.declared.Number.TheVariants.{Empty}
use Rattle.flux_reader.specs.Bytes.{after_timing}
use Rattle.flux_reader.specs.declared.FluxReader.TheVariants.{Timings, AllTimings}

module _ (place : Place) (left : ℕ) (taken : Result Taken ℕ) where
  pub more-timings : 1 < left → Timings place (left - 1) Empty taken ≡ after_timing place left taken
  unfolding after_timing
  more-timings h = rw (lt-ltb 1 left h)

  pub last-timing : left ≤ 1 → AllTimings place taken ≡ after_timing place left taken
  unfolding after_timing
  last-timing h = rw (le-ltb 1 left h)
