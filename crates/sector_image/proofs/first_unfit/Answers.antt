-- `sector_image::first_unfit` meets its contract: what is left of the search finds what all of it does. Assumes nothing.
use mathlib.Core.Path.{◌≡◌, refl, sym, ap, ◌∙◌}
use mathlib.Core.Bool.{Bool, true, false, not}
use native.Mathlib.Omega.{arith}
use Rattle.basis.proofs.Search.{least_step, least-hit, least-end}
use Rattle.sector_image.specs.Image.{fits, first_unfit}
use Rattle.sector_image.proofs.first_unfit.Goals as goal

unfit : {a b : Bool} → a ≡ false → a ≡ b → not b ≡ true
unfit e f = ap not (sym f ∙ e)

fit : {a b : Bool} → a ≡ true → a ≡ b → not b ≡ false
fit e f = ap not (sym f ∙ e)

pub loop-number-init : goal.loop-number-init
unfolding first_unfit
loop-number-init c = refl

pub returns-then-not-fits-clause-first : goal.returns-then-not-fits-clause-first
returns-then-not-fits-clause-first c =
    sym (least-hit (λ k. not (fits c.args.sectors.now k)) c.loop-number.number 10 (omega arith) (unfit c.if-not-fits.true c.fits.ensures)) ∙ c.loop-number.invariant

pub loop-number-preserved : goal.loop-number-preserved
loop-number-preserved c =
    sym (least_step (λ k. not (fits c.args.sectors.now k)) c.loop-number.number 10 (omega arith) (fit c.if-not-fits.false c.fits.ensures)) ∙ c.loop-number.invariant

pub returns-clause-first : goal.returns-clause-first
returns-clause-first c =
    let e : 10 ≡ c.loop-number.number = omega arith in
    e ∙ sym (least-end (λ k. not (fits c.args.sectors.now k)) c.loop-number.number 10 (omega arith)) ∙ c.loop-number.invariant
