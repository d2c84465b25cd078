-- `revolution_values::no_zeros` meets its contract. Assumes nothing.
use Rattle.std.proofs.Common.{sym, ◌∙◌, arith}
use Rattle.revolution_values.proofs.NoZeros.{other-value, zero-value, no-value-left}
use Rattle.revolution_values.proofs.no_zeros.Goals as goal
use Rattle.revolution_values.proofs.no_zeros.Goals.{else-values-i-eq0-via-then-values-i-eq0+else-values-i-eq0-2, else-values-i-eq0-via-else-values-i-eq0}

pub returns-then-values-i-eq0-2 : goal.returns-then-values-i-eq0-2
returns-then-values-i-eq0-2 c =
    zero-value c.args.values.now c.loop-i.i c.loop-i-test.true c.loop-i.invariant c.if-values-i-eq0.true c.if-values-i-eq0-2.true

pub loop-i-preserved : goal.loop-i-preserved
loop-i-preserved c =
    other-value c.args.values.now c.loop-i.i c.loop-i-test.true c.loop-i.invariant
    (elim c.else-values-i-eq0.branch [
      | else-values-i-eq0-via-then-values-i-eq0+else-values-i-eq0-2 w ↦ λ low high. w.if-values-i-eq0-2.false high
      | else-values-i-eq0-via-else-values-i-eq0 w ↦ λ low high. w.if-values-i-eq0.false low
    ])

pub returns : goal.returns
returns c =
    sym (no-value-left c.args.values.now c.loop-i.i (omega (arith, c.loop-i-test.false, c.loop-i.auto.i-end))) ∙ c.loop-i.invariant
