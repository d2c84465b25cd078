-- `findings::findings` meets its contract: at the end all findings are stored. Assumes nothing.
use mathlib.Core.Path.{◌≡◌, sym, ◌∙◌}
use native.Mathlib.Omega.{arith}
use Rattle.findings.proofs.Outcome.{kept-refused, written-given}
use Rattle.findings.proofs.Records.{list_is}
use Rattle.layouts.specs.Layouts.{layout_of}
use Rattle.findings.proofs.findings.Goals as goal

pub returns-in_err-found-clause-list : goal.returns-in_err-found-clause-list
returns-in_err-found-clause-list c = kept-refused _ _ _ c.in_err-found.ensures.answer _ _

pub finding_at-requires : goal.finding_at-requires
finding_at-requires c =
    let l = c.in_ok-found in
    let n = l.ensures.numbers l.found.findings (sym l.ensures.answer) in
    omega (arith, n.few, c.loop-i-test.true)

pub offset_bounds-list-i : goal.offset_bounds-list-i
offset_bounds-list-i c =
    let l = c.in_ok-found in
    let n = l.ensures.numbers l.found.findings (sym l.ensures.answer) in
    omega (arith, n.few, c.loop-i-test.true)

pub bounds-list-i : goal.bounds-list-i
bounds-list-i c =
    let l = c.in_ok-found in
    let n = l.ensures.numbers l.found.findings (sym l.ensures.answer) in
    omega (arith, n.fits, c.loop-i-test.true)

pub returns-clause-list : goal.returns-clause-list
returns-clause-list c =
    let a = c.args in
    let t = a.track in
    let l = c.in_ok-found in
    let n = l.ensures.numbers l.found.findings (sym l.ensures.answer) in
    let e : c.loop-i.i ≡ l.found.findings = omega arith in
    rw e at c.loop-i.invariant
    ∙ list_is (layout_of a.density) t.cells.bytes.now t.cells.count t.track a.list.now _ _ n
    ∙ written-given _ _ l.ensures.answer _ a.list.now
