-- Demand 3's premises can be met, up to both ends of what D and J may be: all drift, with D = 124 and J = 3; all shaking, with D = 0 and
-- J = 499; and between them at the figures that were asked first. Each track has a gap of two, of three and of four cells, cells of both
-- lengths, and pulses off as far as they may be at either side. Assumes nothing.
use Prim.Native.Nat.{ℕ, ◌≤◌}
use mathlib.Core.Path.{refl}
use mathlib.Core.List.{List, [], ◌∷◌}
use native.Mathlib.Omega.{arith}
use lib.Dec.{lit≤}
use lib.IntN.{ℤ, pos, negsuc}
use lib.Signed.{le_z_yes}
use Rattle.separation.specs.Demand3.{Reversal, Fair, last, more, Tolerable, taken}

-- D and J that may be traded, and a track within their tolerance
pub record Possible (D J : ℕ) (p q : ℤ) (vs : List Reversal) (ts : List ℕ) : Type 0 where
  pub may_be : taken D J ≤ 998
  pub track : Tolerable D J p q vs ts

-- two cells of 2,050 ns, three of 1,950 and four of 2,050, with pulses 250 ns off
abbrev pub long-two : Reversal
long-two = record { gap = 2; place = pos 4100; pulse = pos 4350 }

abbrev pub short-three : Reversal
short-three = record { gap = 3; place = pos 9950; pulse = pos 9700 }

abbrev pub long-four : Reversal
long-four = record { gap = 4; place = pos 18150; pulse = pos 18400 }

fair-two : Fair 1950 2050 250 (pos 0) (negsuc 249) long-two 4600
fair-two = record { least = lit≤ tt; most = lit≤ tt; short = le_z_yes tt; long = le_z_yes tt; near = lit≤ tt; timing = refl }

fair-three : Fair 1950 2050 250 (pos 4100) (pos 4350) short-three 5350
fair-three = record { least = lit≤ tt; most = lit≤ tt; short = le_z_yes tt; long = le_z_yes tt; near = lit≤ tt; timing = refl }

fair-four : Fair 1950 2050 250 (pos 9950) (pos 9700) long-four 8700
fair-four = record { least = lit≤ tt; most = lit≤ tt; short = le_z_yes tt; long = le_z_yes tt; near = lit≤ tt; timing = refl }

pub met : Possible 50 250 (pos 0) (negsuc 249) (long-two ∷ short-three ∷ long-four ∷ []) (4600 ∷ 5350 ∷ 8700 ∷ [])
met = record { may_be = lit≤ tt; track = (lit≤ tt, more fair-two (more fair-three (more fair-four last))) }

-- two cells of 2,124 ns, three of 1,876 and four of 2,124, with pulses 3 ns off
abbrev pub drifting-two : Reversal
drifting-two = record { gap = 2; place = pos 4248; pulse = pos 4251 }

abbrev pub drifting-three : Reversal
drifting-three = record { gap = 3; place = pos 9876; pulse = pos 9873 }

abbrev pub drifting-four : Reversal
drifting-four = record { gap = 4; place = pos 18372; pulse = pos 18375 }

drifts-two : Fair 1876 2124 3 (pos 0) (negsuc 2) drifting-two 4254
drifts-two = record { least = lit≤ tt; most = lit≤ tt; short = le_z_yes tt; long = le_z_yes tt; near = lit≤ tt; timing = refl }

drifts-three : Fair 1876 2124 3 (pos 4248) (pos 4251) drifting-three 5622
drifts-three = record { least = lit≤ tt; most = lit≤ tt; short = le_z_yes tt; long = le_z_yes tt; near = lit≤ tt; timing = refl }

drifts-four : Fair 1876 2124 3 (pos 9876) (pos 9873) drifting-four 8502
drifts-four = record { least = lit≤ tt; most = lit≤ tt; short = le_z_yes tt; long = le_z_yes tt; near = lit≤ tt; timing = refl }

pub met-drifting : Possible 124 3 (pos 0) (negsuc 2) (drifting-two ∷ drifting-three ∷ drifting-four ∷ []) (4254 ∷ 5622 ∷ 8502 ∷ [])
met-drifting = record { may_be = lit≤ tt; track = (lit≤ tt, more drifts-two (more drifts-three (more drifts-four last))) }

-- cells of 2,000 ns, with pulses 499 ns off
abbrev pub shaking-two : Reversal
shaking-two = record { gap = 2; place = pos 4000; pulse = pos 4499 }

abbrev pub shaking-three : Reversal
shaking-three = record { gap = 3; place = pos 10000; pulse = pos 9501 }

abbrev pub shaking-four : Reversal
shaking-four = record { gap = 4; place = pos 18000; pulse = pos 18499 }

shakes-two : Fair 2000 2000 499 (pos 0) (negsuc 498) shaking-two 4998
shakes-two = record { least = lit≤ tt; most = lit≤ tt; short = le_z_yes tt; long = le_z_yes tt; near = lit≤ tt; timing = refl }

shakes-three : Fair 2000 2000 499 (pos 4000) (pos 4499) shaking-three 5002
shakes-three = record { least = lit≤ tt; most = lit≤ tt; short = le_z_yes tt; long = le_z_yes tt; near = lit≤ tt; timing = refl }

shakes-four : Fair 2000 2000 499 (pos 10000) (pos 9501) shaking-four 8998
shakes-four = record { least = lit≤ tt; most = lit≤ tt; short = le_z_yes tt; long = le_z_yes tt; near = lit≤ tt; timing = refl }

pub met-shaking : Possible 0 499 (pos 0) (negsuc 498) (shaking-two ∷ shaking-three ∷ shaking-four ∷ []) (4998 ∷ 5002 ∷ 8998 ∷ [])
met-shaking = record { may_be = lit≤ tt; track = (lit≤ tt, more shakes-two (more shakes-three (more shakes-four last))) }

-- D is 124 at most and J is 499 at most, so the two tracks above are at the ends
pub ends : (D J : ℕ) → taken D J ≤ 998 → (D ≤ 124) × (J ≤ 499)
ends D J ok = (omega arith, omega arith)
