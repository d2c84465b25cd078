-- `sectors::Track::sector` meets its contract. Assumes nothing.
use Prim.Native.Nat.{ℕ}
use mathlib.Core.Path.{◌≡◌, sym, ap, ◌∙◌}
use native.Mathlib.Omega.{arith}
use borrow.Author.Rules.{rules}
use lib.ListN.{get_or}
use Rattle.std.specs.Prelude.{Err}
use Rattle.layouts.specs.Layouts.{layout_of}
use Rattle.refusals.specs.RefusedCalls.{Answer}
use Rattle.sector_records.specs.Sectors.{no_sector, sectors_of}
use Rattle.sector_records.specs.declared.Sectors.{Sectors}
use Rattle.sector_records.proofs.Kept.{kept_at}
use Rattle.sectors.specs.Calls.{record_beside, sector_of}
use Rattle.sectors.proofs.Calls.{list-accepted, listed-sectors, index-follows, index-refused, index-given}
use Rattle.sectors.proofs.Track.sector.Goals as goal

pub returns-in_err-sectors-clause-answer : goal.returns-in_err-sectors-clause-answer
returns-in_err-sectors-clause-answer c =
    let same : c.from_residual.result ≡ Err c.in_err-sectors.field-0.0 = search rules in
    rw same (sym ((index-follows _ _ _ _ _ c.args.index).refusals _ _ (sym c.in_err-sectors.ensures.answer)))

pub returns-in_err-sectors-clause-sector : goal.returns-in_err-sectors-clause-sector
unfolding record_beside
returns-in_err-sectors-clause-sector c =
    let a = c.args in
    let same : c.from_residual.result ≡ Err c.in_err-sectors.field-0.0 = search rules in
    let e = sym ((index-follows _ _ _ _ _ a.index).refusals _ _ (sym c.in_err-sectors.ensures.answer)) in
    rw same (ap (λ (x : Answer ℕ). record_beside x (sector_of (layout_of a.density) a.self.cells.bytes.now a.self.cells.count a.index)) e)

pub returns-then-count-index-clause-answer : goal.returns-then-count-index-clause-answer
returns-then-count-index-clause-answer c = index-refused _ _ _ _ _ _ c.in_ok-sectors.ensures.answer _ c.if-count-index.true

pub returns-then-count-index-clause-sector : goal.returns-then-count-index-clause-sector
unfolding record_beside
returns-then-count-index-clause-sector c =
    let a = c.args in
    ap (λ (x : Answer ℕ). record_beside x (sector_of (layout_of a.density) a.self.cells.bytes.now a.self.cells.count a.index)) (returns-then-count-index-clause-answer c)

pub offset_bounds-sectors-index : goal.offset_bounds-sectors-index
offset_bounds-sectors-index c = omega (arith, (list-accepted _ _ _ _ _ _ (sym c.in_ok-sectors.ensures.answer)).1, c.if-count-index.false)

pub bounds-sectors-index : goal.bounds-sectors-index
bounds-sectors-index c = omega (arith, (list-accepted _ _ _ _ _ _ (sym c.in_ok-sectors.ensures.answer)).1, c.if-count-index.false)

pub returns-clause-answer : goal.returns-clause-answer
returns-clause-answer c = index-given _ _ _ _ _ _ c.in_ok-sectors.ensures.answer _ c.if-count-index.false

pub returns-clause-sector : goal.returns-clause-sector
unfolding record_beside
returns-clause-sector c =
    let a = c.args in
    let all = sectors_of (layout_of a.density) a.self.cells.bytes.now a.self.cells.count in
    let e = listed-sectors _ _ _ _ _ _ c.in_ok-sectors.ensures.answer _ c.in_ok-sectors.ensures.sectors in
    ap (λ (s : Sectors). get_or s.all a.index no_sector) e
    ∙ kept_at all a.index (omega (arith, (list-accepted _ _ _ _ _ _ (sym c.in_ok-sectors.ensures.answer)).1, c.if-count-index.false))
    ∙ ap (λ (x : Answer ℕ). record_beside x (sector_of (layout_of a.density) a.self.cells.bytes.now a.self.cells.count a.index)) (returns-clause-answer c)
