-- Demand 3's premises can be met by a track block: one that is worked by computation, at D = 50 and J = 250. Assumes nothing.
use Prim.Native.Nat.{ℕ}
use mathlib.Core.Path.{◌≡◌, refl}
use mathlib.Core.List.{List, [], ◌∷◌}
use lib.Dec.{lit≤}
use lib.IntN.{pos}
use lib.ListN.{length}
use lib.Signed.{le_z_yes}
use Rattle.cells.specs.CellsAndBytes.{packed}
use Rattle.separation.specs.Separation.{cells_for}
use Rattle.separation.specs.Demand3.{Reversal, Fair, last, more, Tolerable, cells_written, cells_in_all, refusal_table}
use Rattle.refusals.specs.RefusedCalls.{Answer, buffer_after}
use Rattle.revolution_portions.specs.Timings.{values_of, timings_from}
use Rattle.supercard_pro.specs.TrackBlock.{revolution_timings}
use Rattle.block_cells.specs.BlockToCells.{BlockDemand3}
use Rattle.supercard_pro.proofs.Examples.{block, is_block}

-- reversals two, three and four cells of 2,000 ns apart, each reported at its place: the first revolution's timings are theirs
abbrev reversal : ℕ → ℕ → Reversal
reversal gap place = record { gap = gap; place = pos place; pulse = pos place }

abbrev pub reversals : List Reversal
reversals = reversal 2 4000 ∷ reversal 3 10000 ∷ reversal 4 18000 ∷ []

two : Fair 1950 2050 250 (pos 0) (pos 0) (reversal 2 4000) 4000
two = record { least = lit≤ tt; most = lit≤ tt; short = le_z_yes tt; long = le_z_yes tt; near = lit≤ tt; timing = refl }

three : Fair 1950 2050 250 (pos 4000) (pos 4000) (reversal 3 10000) 6000
three = record { least = lit≤ tt; most = lit≤ tt; short = le_z_yes tt; long = le_z_yes tt; near = lit≤ tt; timing = refl }

four : Fair 1950 2050 250 (pos 10000) (pos 10000) (reversal 4 18000) 8000
four = record { least = lit≤ tt; most = lit≤ tt; short = le_z_yes tt; long = le_z_yes tt; near = lit≤ tt; timing = refl }

pub met : Tolerable 50 250 (pos 0) (pos 0) reversals (revolution_timings block 0)
unfolding values_of timings_from
met = (lit≤ tt, more two (more three (more four last)))

-- so demand 3 recovers their nine cells from the block
pub recovered : (answer : Answer ℕ) (before after : List ℕ) → BlockDemand3 block 2 0 answer before after
    → (answer ≡ refusal_table 3 9 (length before)) × (after ≡ buffer_after answer (packed (0 ∷ 1 ∷ 0 ∷ 0 ∷ 1 ∷ 0 ∷ 0 ∷ 0 ∷ 1 ∷ [])) before)
unfolding values_of timings_from cells_written cells_in_all cells_for
recovered answer before after demand =
    let r = (demand.recovers is_block refl).recovers 50 250 (lit≤ tt) (pos 0) (pos 0) reversals met in
    (r.refusal, r.cells)
