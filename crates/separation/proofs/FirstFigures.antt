-- Demand 3 at the figures that were asked first: cells of 1,950 to 2,050 ns, pulses within 250 ns, centres within 651 ns, no border pulse. It
-- is the clause of the call at D = 50 and J = 250. Assumes nothing.
use Prim.Native.Nat.{ℕ}
use mathlib.Core.Path.{◌≡◌}
use mathlib.Core.List.{List}
use lib.Dec.{lit≤}
use lib.IntN.{ℤ}
use Rattle.refusals.specs.RefusedCalls.{Answer}
use Rattle.separation.specs.Separation.{border_pulses_of}
use Rattle.separation.specs.Demand3.{Reversal, Within, Track, Recovered, Demand3}

pub at-50-and-250 : {ts : List ℕ} {answer : Answer ℕ} {before after : List ℕ} → Demand3 ts answer before after
    → (p q : ℤ) (vs : List Reversal) → Within 250 q p × Track 1950 2050 250 p q vs ts
    → Recovered 651 ts vs answer before after × (border_pulses_of ts ≡ 0)
at-50-and-250 demand p q vs within =
    (demand.recovers 50 250 (lit≤ tt) p q vs within, demand.no_border_pulses 50 250 (lit≤ tt) p q vs within)
