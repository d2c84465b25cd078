-- Section 4 of the specification, demand 3: on a track within the tolerance the separator recovers the cells that were written.
--
-- A flux transition is called a reversal here. D says how far a cell's length may be from 2,000 ns, and J how far a pulse may be off. The main
-- property is `Demand3`, which the call promises for all timings and every buffer, at every D and J that may be traded for each other. Its
-- premises can be met up to both ends (proofs/Witness), and at D = 50 and J = 250 it is what was asked first (proofs/FirstFigures). Assumes
-- nothing.
use Rattle.std.specs.Prelude.{ℕ, ◌+◌, ◌-◌, ◌*◌, ◌≤◌, List, [], ◌∷◌, ◌++◌, ◌≡◌, ℤ, pos, ◌-ℤ◌, nat_abs, length, ◌≤ℤ◌}
use Rattle.cells.specs.CellsAndBytes.{packed}
use Rattle.refusals.specs.RefusedCalls.{Answer, buffer_after}
use Rattle.separation.specs.Separation.{cells_for, Window, windows_of, border_pulses_of, cells_judged}
use Rattle.flux_timings.specs.Timings.{number_judged}

-- 4.1, 4.2, 4.4: a flux transition after the first: its g, which is how many cells it stands after the one that precedes it, its true
-- place, and where the drive gives its pulse
pub record Reversal : Type 0 where
  pub gap : ℕ
  pub place : ℤ
  pub pulse : ℤ

-- two places at most d apart
abbrev pub Within : ℕ → ℤ → ℤ → Type 0
Within d x y = nat_abs (x -ℤ y) ≤ d

-- 4.2, 4.3, 4.4, 4.5: a transition v, and the timing t that ends at its pulse, where the one that precedes it has its true place at p and
-- its pulse at q. Its g is 2, 3 or 4; from p to its place it is at least shortest * g and at most longest * g; its pulse is no more than
-- `jitter` off; t is the distance of the two pulses
pub record Fair (shortest longest jitter : ℕ) (p q : ℤ) (v : Reversal) (t : ℕ) : Type 0 where
  pub least : 2 ≤ v.gap
  pub most : v.gap ≤ 4
  pub short : pos (shortest * v.gap) ≤ℤ (v.place -ℤ p)
  pub long : (v.place -ℤ p) ≤ℤ pos (longest * v.gap)
  pub near : Within jitter v.pulse v.place
  pub timing : pos t ≡ v.pulse -ℤ q

-- 4.1, 4.5: any number of transitions vs, and their timings ts in order, after a transition at p whose pulse stands at q
pub data Track (shortest longest jitter : ℕ) : ℤ → ℤ → List Reversal → List ℕ → Type 0 where
  last : {p q : ℤ} → Track shortest longest jitter p q [] []
  more : {p q : ℤ} {v : Reversal} {vs : List Reversal} {t : ℕ} {ts : List ℕ}
      → Fair shortest longest jitter p q v t → Track shortest longest jitter v.place v.pulse vs ts
      → Track shortest longest jitter p q (v ∷ vs) (t ∷ ts)

-- 4.6: the cells written: transition by transition those of its g
unfoldable pub cells_written : List Reversal → List ℕ
cells_written [] = []
cells_written (v ∷ vs) = cells_for v.gap ++ cells_written vs

-- 4.8: how many they are: all g added up
unfoldable pub cells_in_all : List Reversal → ℕ
cells_in_all [] = 0
cells_in_all (v ∷ vs) = v.gap + cells_in_all vs

-- 3.5, 4.11: the window centre of each timing lies e before the pulse that ends the timing, and so at most `error` away from the true place
-- of the transition whose pulse that is
pub data Centred (error : ℕ) : List Reversal → List Window → Type 0 where
  none : Centred error [] []
  also : {v : Reversal} {vs : List Reversal} {w : Window} {ws : List Window}
      → Within error (v.pulse -ℤ w.offset) v.place → Centred error vs ws → Centred error (v ∷ vs) (w ∷ ws)

-- 4.8: the answer to k timings of n cells in all with a buffer of `room` bytes: 6 and 7 are judged, then 9 and 10. 8 is not among them
unfoldable pub refusal_table : ℕ → ℕ → ℕ → Answer ℕ
refusal_table k n room = number_judged k (cells_judged n room)

-- 4.8, 4.9, 4.10, 4.11: what a call on the timings ts that answers `answer` and takes a buffer from `before` to `after` makes of the
-- transitions vs. It is refused as the table says and not otherwise; where it is accepted the cells written stand packed at the front of
-- the buffer; and the centres are near, each by the e of the steps up to it
pub record Recovered (error : ℕ) (ts : List ℕ) (vs : List Reversal) (answer : Answer ℕ) (before after : List ℕ) : Type 0 where
  pub refusal : answer ≡ refusal_table (length ts) (cells_in_all vs) (length before)
  pub cells : after ≡ buffer_after answer (packed (cells_written vs)) before
  pub centres : Centred error vs (windows_of ts)

-- 4.1, 4.2, 4.3, 4.4, 4.5: transitions within the tolerance of D and J whose timings are ts: cells of 2000 - D to 2000 + D ns, and pulses
-- no more than J off. The first transition stands at p, and its pulse, which may be off as well, at q
abbrev pub Tolerable : (D J : ℕ) → ℤ → ℤ → List Reversal → List ℕ → Type 0
Tolerable D J p q vs ts = Within J q p × Track (2000 - D) (2000 + D) J p q vs ts

-- 4.14: how much of the window D and J take together, in nanoseconds. So a nanosecond of D costs as much as four of J
abbrev pub taken : (D J : ℕ) → ℕ
taken D J = 8 * D + 2 * J

-- 4.11: how far a centre is off at most, in nanoseconds
abbrev pub farthest_centre : (D J : ℕ) → ℕ
farthest_centre D J = 8 * D + J + 1

-- 4.7, 4.12, 4.13, 4.14, 4.16: demand 3, one claim of the whole list. Whatever D and J are, as long as they take no more than 998 ns, and
-- whatever the transitions within their tolerance, the pulses and the room of the buffer are, the call on the timings recovers the cells.
-- Where D and J take no more than 900 ns, as 50 and 250 do, there is no border pulse either
pub record Demand3 (ts : List ℕ) (answer : Answer ℕ) (before after : List ℕ) : Type 0 where
  pub recovers : (D J : ℕ) → taken D J ≤ 998
      → (p q : ℤ) (vs : List Reversal) → Tolerable D J p q vs ts → Recovered (farthest_centre D J) ts vs answer before after
  pub no_border_pulses : (D J : ℕ) → taken D J ≤ 900
      → (p q : ℤ) (vs : List Reversal) → Tolerable D J p q vs ts → border_pulses_of ts ≡ 0
