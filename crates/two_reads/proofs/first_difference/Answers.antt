-- `two_reads::first_difference` meets its contract: what is left of the search finds what all of it does. Assumes nothing.
use Prim.Native.Nat.{ℕ}
use mathlib.Core.Path.{◌≡◌, refl, sym, ◌∙◌}
use mathlib.Core.Bool.{not, true, false}
use native.Mathlib.Nat.{sub-zero}
use native.Mathlib.Omega.{arith}
use lib.Dec.{eqb}
use lib.ListN.{length}
use borrow.Author.Tests.{eq-eqb, ne_eqb}
use Rattle.basis.proofs.Search.{least_step, least-hit, least-end}
use Rattle.two_reads.specs.Comparison.{differ_at, first_difference}
use Rattle.two_reads.proofs.first_difference.Goals as goal

differs : {a b : ℕ} → (a ≡ b → ⊥) → not (eqb a b) ≡ true
differs {a} {b} h = rw (ne_eqb a b h)

agrees : {a b : ℕ} → a ≡ b → not (eqb a b) ≡ false
agrees {a} {b} e = rw (eq-eqb a b e)

pub loop-i-init : goal.loop-i-init
unfolding first_difference
loop-i-init c = rw sub-zero refl

pub returns-then-first-i-clause-least : goal.returns-then-first-i-clause-least
returns-then-first-i-clause-least c =
    let a = c.args in
    sym (least-hit (differ_at a.first.now a.second.now) c.loop-i.i (length a.first.now) (omega arith) (differs c.if-first-i.true)) ∙ c.loop-i.invariant

pub loop-i-preserved : goal.loop-i-preserved
loop-i-preserved c =
    let a = c.args in
    sym (least_step (differ_at a.first.now a.second.now) c.loop-i.i (length a.first.now) (omega arith) (agrees c.if-first-i.false)) ∙ c.loop-i.invariant

pub returns-clause-least : goal.returns-clause-least
returns-clause-least c =
    let a = c.args in
    let e : length a.first.now ≡ c.loop-i.i = omega arith in
    e ∙ sym (least-end (differ_at a.first.now a.second.now) c.loop-i.i (length a.first.now) (omega arith)) ∙ c.loop-i.invariant
