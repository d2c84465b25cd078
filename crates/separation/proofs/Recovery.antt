-- Every track within a tolerance is recovered: each timing is in range, each window has the cells of its gap, and its centre is near the
-- true place. Assumes nothing.
use Prim.Native.Nat.{ℕ, suc, ◌+◌, ◌-◌, ◌*◌, ◌%◌, ◌≤◌}
use mathlib.Core.Path.{◌≡◌, refl, sym, ◌∙◌, ap, subst}
use mathlib.Core.List.{List, map}
use mathlib.Core.Bool.{true}
use native.Mathlib.Omega.{arith}
use lib.IntN.{ℤ, pos, sub_ℕ, ◌-ℤ◌}
use lib.ListN.{length}
use Rattle.flux_timings.specs.Timings.{in_range}
use Rattle.separator.specs.Rule.{cells_at, offset_at, residual_after, double_half_window, border_pulses_at_by}
use Rattle.separation.specs.Separation.{Window, windows_from, cells_in, border_pulses_in}
use Rattle.flux_timings.specs.Timings.{first_out}
use Rattle.separation.specs.Demand3.{Reversal, Within, Fair, Track, last, more, Centred, none, also, cells_written, Tolerable, taken}
use Rattle.separator.proofs.Differences.{up, down, sub_parts, minus-parts}
use Rattle.separator.proofs.Orders.{le_of, abs-le, le-abs}
use Rattle.separator.proofs.Border.{border-near}
use Rattle.separator.proofs.Lifted.{halfway, cells_is, offset-is, residual-is}
use Rattle.flux_timings.proofs.Timing.{in-range}
use Rattle.separation.proofs.Tolerance.{Apart, Carried, shortest-gap, longest-gap, window-cells, window-timing, window-centre, window-carried}

-- places at most d apart, by the two parts of their difference
within-apart : (d : ℕ) (x y : ℤ) → Within d x y → Apart d (up (x -ℤ y)) (down (x -ℤ y))
within-apart d x y h = let k = le-abs (x -ℤ y) d h in record { less = k.0; more = k.1 }

-- one reversal v, and the timing t that ends at its pulse, from a residual b - 1000 that follows the track so far
module _ {D J error : ℕ} (ok : 8 * D + 2 * J ≤ 998) (enough : 8 * D + J ≤ error) {p q : ℤ} {v : Reversal} {t : ℕ}
    (fair : Fair (2000 - D) (2000 + D) J p q v t) (b : ℕ) (near : Within J q p) (carried : Carried D J b (up (q -ℤ p)) (down (q -ℤ p))) where
  abbrev far : ℤ
  far = v.place -ℤ p

  abbrev gap : ℕ
  gap = up far - down far

  forward : ((2000 - D) * v.gap + down far ≤ up far) × (up far ≤ (2000 + D) * v.gap + down far)
  forward =
      let a = le_of (pos ((2000 - D) * v.gap)) far fair.short.le in
      let c = le_of far (pos ((2000 + D) * v.gap)) fair.long.le in
      (omega arith, omega arith)

  gap-near : Apart (4 * D) gap (2000 * v.gap)
  gap-near =
      let small : D ≤ 2000 = omega arith in
      let a = shortest-gap D small v.gap fair.least fair.most in
      let c = longest-gap D small v.gap fair.least fair.most in
      record { less = omega (arith, forward.1); more = omega (arith, forward.0) }

  timed : t + up (q -ℤ p) + down (v.pulse -ℤ v.place) ≡ gap + down (q -ℤ p) + up (v.pulse -ℤ v.place)
  timed =
      let a = minus-parts q p in
      let c = minus-parts v.pulse v.place in
      let d = minus-parts v.place p in
      let e = minus-parts v.pulse q in
      let m = ap up fair.timing in
      let n = ap down fair.timing in
      omega (arith, forward.0)

  after : Apart J (up (v.pulse -ℤ v.place)) (down (v.pulse -ℤ v.place))
  after = within-apart J v.pulse v.place fair.near

  before : Apart J (up (q -ℤ p)) (down (q -ℤ p))
  before = within-apart J q p near

  timing-in-range : in_range t ≡ true
  timing-in-range =
      let k = window-timing v.gap gap t ok carried before after fair.least fair.most gap-near timed in
      in-range t k.0 k.1

  cells-are-gap : cells_at double_half_window (sub_ℕ b 1000) t ≡ v.gap
  cells-are-gap = cells_is 1000 b t ∙ window-cells v.gap gap t ok carried before after fair.least fair.most gap-near timed

  centre-near : Within error (v.pulse -ℤ offset_at double_half_window (sub_ℕ b 1000) t) v.place
  centre-near =
      let m = (t + b) % 2000 in
      let c = window-centre v.gap gap t ok carried before after fair.least fair.most gap-near timed in
      let centre = v.pulse -ℤ sub_ℕ m 1000 in
      let x = minus-parts v.pulse v.place in
      let y = minus-parts v.pulse (sub_ℕ m 1000) in
      let z = minus-parts centre v.place in
      let w = sub_parts m 1000 in
      rw (offset-is 1000 b t) (abs-le (centre -ℤ v.place) error (omega arith) (omega arith))

  -- the offset is at most 8 D + 2 J, so that up to 901 the pulse is no border pulse
  no-border : 8 * D + 2 * J ≤ 901 → border_pulses_at_by double_half_window (offset_at double_half_window (sub_ℕ b 1000) t) ≡ 0
  no-border quiet =
      let m = (t + b) % 2000 in
      let c = window-centre v.gap gap t ok carried before after fair.least fair.most gap-near timed in
      let a = after in
      let w = sub_parts m 1000 in
      rw (offset-is 1000 b t) (border-near (sub_ℕ m 1000) (omega arith) (omega arith))

  carried_on : Carried D J (halfway 1000 ((t + b) % 2000)) (up (v.pulse -ℤ v.place)) (down (v.pulse -ℤ v.place))
  carried_on = window-carried v.gap gap t ok carried before after fair.least fair.most gap-near timed

-- what the rule makes of the timings ts of a track with the reversals vs, from the residual r on
pub record Followed (D J error : ℕ) (r : ℤ) (vs : List Reversal) (ts : List ℕ) : Type 0 where
  pub in-range : first_out ts ≡ length ts
  pub gaps : map (λ (w : Window). w.cells) (windows_from double_half_window r ts) ≡ map (λ (v : Reversal). v.gap) vs
  pub cells : cells_in (windows_from double_half_window r ts) ≡ cells_written vs
  pub centres : Centred error vs (windows_from double_half_window r ts)
  pub no_borders : 8 * D + 2 * J ≤ 901 → border_pulses_in double_half_window (windows_from double_half_window r ts) ≡ 0

module _ (D J error : ℕ) (ok : 8 * D + 2 * J ≤ 998) (enough : 8 * D + J ≤ error) where
  followed-from : {p q : ℤ} {vs : List Reversal} {ts : List ℕ} (b : ℕ) → Within J q p → Carried D J b (up (q -ℤ p)) (down (q -ℤ p))
      → Track (2000 - D) (2000 + D) J p q vs ts → Followed D J error (sub_ℕ b 1000) vs ts
  unfolding windows_from cells_in border_pulses_in cells_written first_out
  followed-from b near carried last = record { in-range = refl; gaps = refl; cells = refl; centres = none; no_borders = λ quiet. refl }
  followed-from b near carried (more {v = v} {vs = vs} {t = t} {ts = ts} fair track) =
      let r = residual_after double_half_window (sub_ℕ b 1000) t in
      let later : Followed D J error r vs ts =
      subst (λ (z : ℤ). Followed D J error z vs ts) (sym (residual-is 1000 b t))
      (followed-from (halfway 1000 ((t + b) % 2000)) fair.near (carried_on ok enough fair b near carried) track) in
      let same = cells-are-gap ok enough fair b near carried in
      record {
        in-range = rw (timing-in-range ok enough fair b near carried) (ap suc later.in-range);
        gaps = rw (same, later.gaps);
        cells = rw (same, later.cells);
        centres = also (centre-near ok enough fair b near carried) later.centres;
        no_borders = λ quiet. rw (no-border ok enough fair b near carried quiet, later.no_borders quiet);
      }

  -- from the first reversal, whose pulse is off too, with the residual 0
  pub tolerance : {p q : ℤ} {vs : List Reversal} {ts : List ℕ} → Within J q p → Track (2000 - D) (2000 + D) J p q vs ts
      → Followed D J error (pos 0) vs ts
  tolerance {p} {q} near track =
      let a = within-apart J q p near in
      followed-from 1000 near (record { low = omega arith; high = omega arith }) track

-- whatever D and J are traded, all timings of such a track are in range: refusal 8 cannot arise
pub all-in-range : (D J : ℕ) → taken D J ≤ 998 → {p q : ℤ} {vs : List Reversal} {ts : List ℕ} → Tolerable D J p q vs ts → first_out ts ≡ length ts
all-in-range D J ok within = (tolerance D J (8 * D + J) (omega arith) (omega arith) within.0 within.1).in-range
