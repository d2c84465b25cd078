-- What is written where there is nothing to write. Assumes nothing.
use Prim.Native.Nat.{ℕ}
use mathlib.Core.Path.{◌≡◌}
use mathlib.Core.List.{List, []}
use lib.ListN.{length}
use lib.Seq.{take-nil}
use Rattle.lines.specs.Lines.{out_after}

pub nothing_written : (before : List ℕ) → out_after [] before ≡ before
nothing_written before = rw (take-nil {A = ℕ} (length before))
