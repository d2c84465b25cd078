-- `sector_image::find` meets its contract: what is left of the search finds what all of it does. Assumes nothing.
use mathlib.Core.Path.{◌≡◌, sym, ◌∙◌}
use native.Mathlib.Omega.{arith}
use borrow.Author.Tests.{eq-eqb, ne_eqb}
use lib.ListN.{length}
use Rattle.basis.proofs.Search.{least_step, least-hit, least-end}
use Rattle.sector_image.specs.Image.{numbered}
use Rattle.sector_image.proofs.find.Goals as goal

pub returns-then-sectors-i-clause-least : goal.returns-then-sectors-i-clause-least
returns-then-sectors-i-clause-least c =
    let a = c.args in
    sym (least-hit (numbered a.sectors.now a.number) c.loop-i.i (length a.sectors.now) (omega arith) (eq-eqb _ _ c.if-sectors-i.true)) ∙ c.loop-i.invariant

pub loop-i-preserved : goal.loop-i-preserved
loop-i-preserved c =
    let a = c.args in
    sym (least_step (numbered a.sectors.now a.number) c.loop-i.i (length a.sectors.now) (omega arith) (ne_eqb _ _ c.if-sectors-i.false)) ∙ c.loop-i.invariant

pub returns-clause-least : goal.returns-clause-least
returns-clause-least c =
    let a = c.args in
    let e : length a.sectors.now ≡ c.loop-i.i = omega arith in
    e ∙ sym (least-end (numbered a.sectors.now a.number) c.loop-i.i (length a.sectors.now) (omega arith)) ∙ c.loop-i.invariant
