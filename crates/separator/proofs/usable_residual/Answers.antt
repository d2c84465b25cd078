-- `separator::usable_residual` meets its contract. Assumes nothing.
use mathlib.Core.Logic.{inl, inr}
use Rattle.separator.proofs.Residual.{tested-in, tested-out}
use Rattle.separator.proofs.Stepped.{half_high}
use Rattle.separator.proofs.usable_residual.Goals.{else-least-residual-via-then-least-residual+else-residual-most, else-least-residual-via-else-least-residual}
use Rattle.separator.proofs.usable_residual.Goals as goal

pub returns-then-residual-most : goal.returns-then-residual-most
returns-then-residual-most g c =
    let e = c.HALF-half_window.ensures in
    tested-in _ (half_high g.met.W.BitWindow.is_half) c.ranges.residual (rw e at c.if-least-residual.true) (rw e at c.if-residual-most.true)

pub returns-else-least-residual : goal.returns-else-least-residual
returns-else-least-residual g c =
    let e = c.HALF-half_window.ensures in
    tested-out _ (half_high g.met.W.BitWindow.is_half) c.ranges.residual
    (
    elim c.else-least-residual.branch [
      | else-least-residual-via-then-least-residual+else-residual-most w ↦ inr (rw e at w.if-residual-most.false)
      | else-least-residual-via-else-least-residual w ↦ inl (rw e at w.if-least-residual.false)
    ]
    )
