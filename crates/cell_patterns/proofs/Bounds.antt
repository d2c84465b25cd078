-- How large the numbers are that are counted on the cells. Assumes nothing.
use Prim.Native.Nat.{ℕ, zero, suc, ◌+◌, ◌≤◌}
use mathlib.Core.Bool.{Bool, true, false, cond}
use native.Mathlib.Nat.{max-le}
use native.Mathlib.Omega.{arith}
use Rattle.basis.specs.Search.{most}
use Rattle.basis.proofs.Search.{least-high, count-few}
use Rattle.cell_patterns.specs.Cells.{violation, zeros_from, run_from, longest_run, longest_start, gaps_of, syncs_between, syncs_inside}
use Rattle.cell_patterns.proofs.Runs.{zeros-few}
use Rattle.cell_patterns.proofs.Syncs.{syncs-few}
use Rattle.layouts.specs.declared.Layout.{Layout}
use Rattle.layouts.specs.PrivateContracts.{Sound}
use Rattle.sector_records.specs.Sectors.{has_data}
use Rattle.sector_records.specs.declared.Sector.{Sector}

most-few : (g : ℕ → ℕ) (b : ℕ) → ((q : ℕ) → g q ≤ b) → (k p : ℕ) → most g k p ≤ b
unfolding most
most-few g b h zero p = omega arith
most-few g b h (suc k) p = max-le (h p) (most-few g b h k (p + 1))

run-few : (f : ℕ → ℕ) (n : ℕ) → longest_run f n ≤ n
unfolding longest_run
run-few f n = most-few (zeros_from f n) n (zeros-few f n) n 0

start_few : (f : ℕ → ℕ) (n : ℕ) → longest_start f n ≤ n
unfolding longest_start
start_few f n = omega (arith, least-high (run_from f n (longest_run f n)) n 0)

-- no more than the cells
pub gaps-few : (layout : Layout) (f : ℕ → ℕ) (n : ℕ) → ((gaps_of layout f n).first ≤ n) × ((gaps_of layout f n).violations ≤ n) × ((gaps_of layout f n).start ≤ n) × ((gaps_of layout f n).longest ≤ n)
unfolding gaps_of
gaps-few layout f n = (omega (arith, least-high (violation layout f n) n 0), count-few (violation layout f n) n 0, start_few f n, run-few f n)

-- no more than the cells of the ID and of the data
pub inside-few : (layout : Layout) → Sound layout → (f : ℕ → ℕ) (s : Sector) → syncs_inside layout f s ≤ 160 + s.data_end
unfolding syncs_inside
inside-few layout sound f s =
    omega (arith, sound.id, syncs-few layout.sync f (s.place + layout.mark_length) (s.place + layout.id_length), go (has_data s))
  where
    go : (b : Bool) → cond b (syncs_between layout.sync f (s.data_place + layout.mark_length) s.data_end) 0 ≤ s.data_end
    go true = omega (arith, syncs-few layout.sync f (s.data_place + layout.mark_length) s.data_end)
    go false = omega arith
