-- `flux_file::feed_timings` meets its contract: after each turn what is left of the portion leads to the same end. Assumes nothing.
use Prim.Native.Nat.{ℕ}
use mathlib.Core.Path.{ap}
use mathlib.Core.List.{List, []}
use native.Mathlib.Omega.{arith}
use lib.ListN.{take, get_or, length-take}
use Rattle.flux_file.proofs.Portions.{timing-fed}
use Rattle.flux_file.proofs.feed_timings.Goals as goal

pub loop-timing-preserved : goal.loop-timing-preserved
loop-timing-preserved c =
    let i = c.loop-timing.timing-index in
    let end = c.min-end.result in
    let k = c.as_chunks.ensures.front_len in
    let t = length-take end c.as_chunks.result.0.now in
    let step = c.take_timing-taken.ensures in
    timing-fed _ end c.loop-timing.invariant (omega (arith, t)) (omega (arith, c.min-end.ensures, k)) (omega arith) (omega (arith, t, c.min-end.ensures, c.saturating_sub.ensures)) (omega arith)
    (ap (λ (l : List (List ℕ)). get_or (take end l) i []) c.as_chunks.ensures.front) (omega (arith, c.four_bytes-number.ensures)) step.taken step.buffer
