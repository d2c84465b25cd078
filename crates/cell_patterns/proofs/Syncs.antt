-- Counting sync words between two places. Assumes nothing.
use Prim.Native.Nat.{ℕ, ◌+◌, ◌-◌, ◌<◌, ◌≤◌}
use mathlib.Core.Path.{◌≡◌}
use mathlib.Core.Bool.{cond}
use native.Mathlib.Omega.{arith}
use borrow.Author.Tests.{eq-eqb, ne_eqb}
use Rattle.basis.specs.Search.{count}
use Rattle.basis.proofs.Search.{count-few}
use Rattle.cell_patterns.specs.Cells.{syncs_between}
use Rattle.sector_records.specs.Sectors.{has_data}
use Rattle.sector_records.specs.Marks.{word_mark_at}
use Rattle.sector_records.specs.declared.Sector.{Sector}

module _ (sync : ℕ) (f : ℕ → ℕ) (from to : ℕ) where
  pub syncs-short : to < 16 → 0 ≡ syncs_between sync f from to
  unfolding syncs_between count
  syncs-short h = let e : to - 15 - from ≡ 0 = omega arith in rw e

  -- counted otherwise
  pub syncs-of : (syncs : ℕ) → syncs ≡ count (word_mark_at f sync) (to - 15 - from) from → syncs ≡ syncs_between sync f from to
  unfolding syncs_between
  syncs-of syncs h = h

  -- no more than the cells
  pub syncs-few : syncs_between sync f from to ≤ to - from
  unfolding syncs_between
  syncs-few = omega (arith, count-few (word_mark_at f sync) (to - 15 - from) from)

module _ (sync mark id : ℕ) (f : ℕ → ℕ) (s : Sector) (syncs : ℕ) (e : syncs ≡ syncs_between sync f (s.place + mark) (s.place + id)) where
  abbrev pub both : ℕ
  both = syncs_between sync f (s.place + mark) (s.place + id) + cond (has_data s) (syncs_between sync f (s.data_place + mark) s.data_end) 0

  pub inside-id : s.data_mark ≡ 0 → syncs ≡ both
  inside-id h = rw (eq-eqb s.data_mark 0 h) (omega arith)

  pub inside_both : (more : ℕ) → (s.data_mark ≡ 0 → ⊥) → more ≡ syncs_between sync f (s.data_place + mark) s.data_end → syncs + more ≡ both
  inside_both more h g = rw (ne_eqb s.data_mark 0 h, e, g)
