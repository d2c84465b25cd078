-- 7.47: in single density no finding is NSI or NSD, since a mark is one of three words, and their bytes are the usual ones. Assumes nothing.
use Prim.Native.Nat.{ℕ, ◌-◌, ◌<◌, ◌≤◌}
use mathlib.Core.Path.{◌≡◌, sym, ap, ◌∙◌}
use mathlib.Core.Bool.{Bool, true, false, not, ◌&&◌}
use mathlib.Core.List.{List}
use mathlib.Core.Logic.{◌⊎◌, inl, inr}
use native.Mathlib.Omega.{arith}
use lib.Dec.{eqb}
use lib.ListN.{length, get_or}
use Rattle.cells.specs.CellsAndBytes.{cell}
use Rattle.layouts.specs.Layouts.{single_density}
use Rattle.finding_rules.specs.Rules.{no_row, nth, nsi, id_rows}
use Rattle.finding_rules.specs.declared.Row.{Row}
use Rattle.finding_rules.proofs.Rows.{row-id}
use Rattle.finding_list.specs.Findings.{looks}
use Rattle.finding_list.proofs.Laws.{Stands, row_of, stands-exactly}
use Rattle.finding_list.proofs.Looks.{looks-sectors, row-on-sector}
use Rattle.sector_records.specs.Sectors.{sectors_of}
use Rattle.sector_records.specs.declared.Sector.{Sector}
use Rattle.sector_records.proofs.MarkBytes.{single-mark, single-data-mark}

usual-id : (s : Sector) → s.mark ≡ 0xFE → (nsi s).holds ≡ false
usual-id s e = rw e

usual-data : (m : ℕ) → (m ≡ 0) ⊎ ((m ≡ 0xFB) ⊎ (m ≡ 0xF8)) → (not (eqb m 0) && (not (eqb m 0xF8) && not (eqb m 0xFB))) ≡ false
usual-data m (inl e) = rw e
usual-data m (inr (inl e)) = rw e
usual-data m (inr (inr e)) = rw e

never : {b : Bool} → b ≡ false → b ≡ true → ⊥
never f t = let z : ◌≡◌ {A = ℕ} 0 1 = cc in omega arith

module _ (bytes : List ℕ) (N T : ℕ) where
  abbrev ss : List Sector
  ss = sectors_of single_density bytes N

  -- a row of the kinds on an ID, at one of the track's sectors
  id-row : (kind look : ℕ) → 7 ≤ kind → kind ≤ 12 → row_of single_density bytes N T kind look ≡ get_or (id_rows single_density T (nth ss look)) (kind - 7) no_row
  id-row kind look low high =
      let e : kind - 1 - 6 ≡ kind - 7 = omega arith in
      sym (row-on-sector single_density (cell bytes N) N T ss (kind - 1) (omega arith) (omega arith) look)
      ∙ row-id single_density (cell bytes N) N T ss (nth ss look) (kind - 1 - 6) (omega arith)
      ∙ ap (λ (k : ℕ). get_or (id_rows single_density T (nth ss look)) k no_row) e

  at-a-sector : (kind look : ℕ) → 7 ≤ kind → kind ≤ 12 → look < looks ss (kind - 1) → look < length ss
  at-a-sector kind look low high h = omega (arith, looks-sectors ss (kind - 1) (omega arith) (omega arith))

  pub no-nsi : (p d : ℕ) → Stands single_density bytes N T 11 p d → ⊥
  unfolding id_rows
  no-nsi p d stands =
      let h = (stands-exactly single_density bytes N T 11 p d (omega arith) (omega arith)).0 stands in
      let row = ap (λ (r : Row). r.holds) (id-row 11 h.look (omega arith) (omega arith)) in
      never (row ∙ usual-id (nth ss h.look) (single-mark bytes N h.look (at-a-sector 11 h.look (omega arith) (omega arith) h.below))) h.holds

  pub no-nsd : (p d : ℕ) → Stands single_density bytes N T 12 p d → ⊥
  unfolding id_rows
  no-nsd p d stands =
      let h = (stands-exactly single_density bytes N T 12 p d (omega arith) (omega arith)).0 stands in
      let row = ap (λ (r : Row). r.holds) (id-row 12 h.look (omega arith) (omega arith)) in
      never (row ∙ usual-data _ (single-data-mark bytes N h.look (at-a-sector 12 h.look (omega arith) (omega arith) h.below))) h.holds
