-- `sector_records::Marked::sectors` meets its contract: at each turn the sectors before p are kept, as many as there is room for. Assumes nothing.
use Prim.Native.Nat.{ℕ, ◌+◌, ◌-◌}
use mathlib.Core.Path.{◌≡◌, sym, ap, ◌∙◌}
use mathlib.Core.List.{[], ◌∷◌, ◌++◌}
use native.Mathlib.Omega.{arith}
use Rattle.basis.specs.Lists.{joined}
use Rattle.basis.proofs.Joined.{joined-none}
use Rattle.basis.proofs.Search.{least-low}
use Rattle.sector_records.specs.Marks.{id_mark_at}
use Rattle.sector_records.specs.PrivateContracts.{cells_on}
use Rattle.sector_records.specs.Sectors.{sector_at, sectors_at, sectors_of, kept}
use Rattle.sector_records.specs.declared.Sectors.{Sectors}
use Rattle.sector_records.proofs.Kept.{kept-count, kept_more, kept_full}
use Rattle.sector_records.proofs.Listing.{before-next, sectors-few, sectors-here}
use Rattle.sector_records.proofs.Marked.sectors.Goals.{then-sectors-lt-MOST_SECTORS, else-sectors-lt-MOST_SECTORS}
use Rattle.sector_records.proofs.Marked.sectors.Goals as goal

pub loop-p-init : goal.loop-p-init
loop-p-init c =
    let self = c.args.self.now in
    let f = cells_on self.cells in
    before-next self.layout f self.cells.count _ 0 _ (omega arith) c.find_id_mark-p.ensures (c.no_sectors-sectors.ensures ∙ ap kept (sym (joined-none (sectors_at self.layout f))))

pub overflow_add-sectors : goal.overflow_add-sectors
overflow_add-sectors c =
    let self = c.args.self.now in
    let f = cells_on self.cells in
    let xs = joined (sectors_at self.layout f) c.loop-p.p in
    let e : c.loop-p.sectors.count ≡ (kept xs).count = ap (λ (x : Sectors). x.count) c.loop-p.invariant.are in
    let s = c.if-sectors-lt-MOST_SECTORS in
    let same : s.sectors.count ≡ c.loop-p.sectors.count =
    elim s.branch [ then-sectors-lt-MOST_SECTORS w ↦ ap (λ (x : Sectors). x.count) w.sectors-is | else-sectors-lt-MOST_SECTORS w ↦ ap (λ (x : Sectors). x.count) w.sectors-is ] in
    omega (arith, same, e, kept-count xs, sectors-few self.layout f c.loop-p.p, c.loop-p-test.true, self.is_map.0)

pub loop-p-smaller : goal.loop-p-smaller
loop-p-smaller c =
    let self = c.args.self.now in
    omega (arith, c.loop-p-test.true, c.find_id_mark-p-in-loop-p.ensures, least-low (id_mark_at self.layout (cells_on self.cells)) (self.cells.count - (c.loop-p.p + 1)) (c.loop-p.p + 1))

pub loop-p-preserved : goal.loop-p-preserved
loop-p-preserved c =
    let self = c.args.self.now in
    let f = cells_on self.cells in
    let p = c.loop-p.p in
    let xs = joined (sectors_at self.layout f) p in
    let x = sector_at self.layout f p in
    let inv = c.loop-p.invariant in
    let h = c.loop-p-test.true in
    let s = c.if-sectors-lt-MOST_SECTORS in
    let next : record { all = s.sectors.all; count = s.sectors.count + 1 } ≡ kept (xs ++ (x ∷ [])) =
    elim s.branch [
      | then-sectors-lt-MOST_SECTORS w ↦ rw (w.sectors-is, w.sector_at.ensures) (kept_more xs x c.loop-p.sectors inv.are w.if-sectors-lt-MOST_SECTORS.true)
      | else-sectors-lt-MOST_SECTORS w ↦ rw w.sectors-is (kept_full xs x c.loop-p.sectors inv.are w.if-sectors-lt-MOST_SECTORS.false)
    ] in
    before-next self.layout f self.cells.count _ (p + 1) _ (omega (arith, h)) c.find_id_mark-p-in-loop-p.ensures (rw (sectors-here self.layout f p (inv.on h)) next)

pub returns : goal.returns
unfolding sectors_of
returns c =
    let self = c.args.self.now in
    let e : c.loop-p.p ≡ self.cells.count = omega (arith, c.loop-p.invariant.inside, c.loop-p-test.false) in
    c.loop-p.invariant.are ∙ ap (λ (p : ℕ). kept (joined (sectors_at self.layout (cells_on self.cells)) p)) e
