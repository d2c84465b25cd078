-- What the call on a list promises for either density: by the judgement of its timings, and then of their cells. Assumes nothing.
use Prim.Native.Nat.{ℕ, ◌≤◌, ◌<◌}
use mathlib.Core.Path.{◌≡◌, ◌∙◌, ap}
use mathlib.Core.List.{List}
use native.Mathlib.Omega.{arith}
use borrow.Author.Tests.{lt-ltb, le-ltb}
use lib.ListN.{length, take}
use Rattle.basis.specs.Lists.{listed, written_over}
use Rattle.cells.specs.CellsAndBytes.{bytes_for, packed_byte, packed}
use Rattle.refusals.specs.RefusedCalls.{Answer, buffer_after}
use Rattle.refusals.specs.RefusedCalls.Answer.{gives, refused}
use Rattle.flux_timings.specs.Timings.{timings_judged}
use Rattle.flux_timings.proofs.Judging.{judged_refused, judged_good}
use Rattle.separation.specs.Separation.{cells_of_by, border_pulses_of_by, border_pulses_of, cells_judged, separation_by, separated_cells_by, border_pulses_after, border_pulses_counted}
use Rattle.separation.proofs.Writing.{front-copied}

module _ (half : ℕ) (ts before : List ℕ) (pulses : ℕ) where
  abbrev packed-after : Answer ℕ → List ℕ
  packed-after x = buffer_after x (packed (cells_of_by half ts)) before

  abbrev pulses-after : Answer ℕ → ℕ
  pulses-after x = border_pulses_after x (border_pulses_of_by half ts) pulses

  -- an answer, with the buffer and the number of border pulses that it leaves
  abbrev Answered : Answer ℕ → List ℕ → ℕ → Type 0
  Answered given after counted =
      record { answer : given ≡ separation_by half ts (length before); buffer : after ≡ separated_cells_by half ts before; border_pulses : counted ≡ pulses-after (separation_by half ts (length before)) }

  answered-refused : {number value : ℕ} → refused number value ≡ separation_by half ts (length before) → Answered (refused number value) before pulses
  unfolding buffer_after border_pulses_after
  answered-refused e = record { answer = e; buffer = ap packed-after e; border_pulses = ap pulses-after e }

  -- the timings are refused
  module _ {number value : ℕ} (bad : refused number value ≡ timings_judged ts (gives (tt {0}))) where
    pub refused_buffer : before ≡ separated_cells_by half ts before
    refused_buffer = (answered-refused (judged_refused ts _ bad)).buffer

    pub refused_border_pulses : pulses ≡ pulses-after (separation_by half ts (length before))
    refused_border_pulses = (answered-refused (judged_refused ts _ bad)).border_pulses

  -- they are not, and have n cells
  module _ (good : gives (tt {0}) ≡ timings_judged ts (gives (tt {0}))) {n : ℕ} (count : n ≡ length (cells_of_by half ts)) where
    judged : cells_judged n (length before) ≡ separation_by half ts (length before)
    judged = ap (λ (m : ℕ). cells_judged m (length before)) count ∙ judged_good ts _ good

    pub too-many-cells : 131072 < n → Answered (refused 9 n) before pulses
    unfolding cells_judged
    too-many-cells h = answered-refused (rw (lt-ltb 131072 n h) at judged)

    module _ (few : n ≤ 131072) where
      pub no-room-for-cells : length before < bytes_for n → Answered (refused 10 (bytes_for n)) before pulses
      unfolding cells_judged
      no-room-for-cells h = answered-refused (rw (le-ltb 131072 n few, lt-ltb (length before) (bytes_for n) h) at judged)

      -- and are copied out of the room that they were put into
      pub cells-accepted : bytes_for n ≤ length before
          → {room : List ℕ} → (length (cells_of_by half ts) ≤ 131072 → room ≡ listed (packed_byte (cells_of_by half ts)) 16384)
          → {after : List ℕ} → after ≡ written_over (take (length before) (take (bytes_for n) room)) before
          → {counted : ℕ} → counted ≡ border_pulses_of_by half ts → Answered (gives n) after counted
      unfolding cells_judged buffer_after border_pulses_after
      cells-accepted h {room} filled {after} copied counts =
          let e = rw (le-ltb 131072 n few, le-ltb (length before) (bytes_for n) h) at judged in
          let f = front-copied (cells_of_by half ts) _ room before after (filled (omega (arith, count))) (ap bytes_for count) (omega (arith, few)) h copied in
          record { answer = e; buffer = f ∙ ap packed-after e; border_pulses = counts ∙ ap pulses-after e }

-- the border pulses alone
pub pulses_counted : (ts : List ℕ) → gives (tt {0}) ≡ timings_judged ts (gives (tt {0})) → {k : ℕ} → k ≡ border_pulses_of ts → gives k ≡ border_pulses_counted ts
pulses_counted ts good e = ap gives e ∙ judged_good ts _ good
