-- `sector_records::Marked::find_mark` meets its contract: every mark from `from` to p that is passed has another byte. Assumes nothing.
use Prim.Native.Nat.{ℕ, ◌+◌}
use mathlib.Core.Path.{◌≡◌, refl, sym, ap, ◌∙◌}
use mathlib.Core.Bool.{◌&&◌}
use native.Mathlib.Omega.{arith}
use lib.Dec.{leb}
use Rattle.basis.proofs.Search.{least-hit, least_step, least-end}
use Rattle.cells.proofs.Places.{cell-lt}
use Rattle.sector_records.specs.PrivateContracts.{cells_on, likely_at}
use Rattle.sector_records.proofs.Marks.{sought-next, mark-of, double-density}
use Rattle.sector_records.proofs.Marked.find_mark.Goals as goal

pub loop-p-init : goal.loop-p-init
loop-p-init c =
    let a = c.args in
    let self = a.self.now in
    let map = self.is_map.1 (double-density self.layout self.density self.is_layout c.requires.0) in
    sought-next _ (cell-lt self.cells.bytes.now self.cells.count) _ _ _ _ _ _ c.requires.3 c.requires.1 (c.least_in-p.ensures.1 _ _ map (omega arith) (omega arith)) refl

pub returns-then-low-byte : goal.returns-then-low-byte
returns-then-low-byte c =
    let inv = c.loop-p.invariant in
    let h = c.loop-p-test.true in
    sym (least-hit _ _ _ h (mark-of _ _ _ _ _ (inv.on h) (ap (λ (x : ℕ). leb c.args.low x && leb x c.args.high) c.byte_on-byte.ensures) ∙ c.if-low-byte.true)) ∙ inv.same

pub loop-p-smaller : goal.loop-p-smaller
loop-p-smaller c = omega (arith, c.loop-p-test.true, c.least_in-p-in-loop-p.ensures.0)

pub loop-p-preserved : goal.loop-p-preserved
loop-p-preserved c =
    let self = c.args.self.now in
    let inv = c.loop-p.invariant in
    let h = c.loop-p-test.true in
    let s = least_step _ _ _ h (mark-of _ _ _ _ _ (inv.on h) (ap (λ (x : ℕ). leb c.args.low x && leb x c.args.high) c.byte_on-byte.ensures) ∙ c.if-low-byte.false) in
    let map = self.is_map.1 (double-density self.layout self.density self.is_layout c.requires.0) in
    sought-next _ (cell-lt self.cells.bytes.now self.cells.count) _ _ _ _ (c.loop-p.p + 1) _ c.requires.3 (omega arith) (c.least_in-p-in-loop-p.ensures.1 (likely_at (cells_on self.cells)) _ map (omega arith) (omega arith)) (sym s ∙ inv.same)

pub returns : goal.returns
returns c =
    let a = c.args in
    let e : a.to ≡ c.loop-p.p = omega (arith, c.loop-p.invariant.inside, c.loop-p-test.false) in
    e ∙ sym (least-end _ _ _ c.loop-p-test.false) ∙ c.loop-p.invariant.same
