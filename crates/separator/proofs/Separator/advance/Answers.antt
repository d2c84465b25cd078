-- `separator::Separator::advance` meets its contract. Assumes nothing.
use mathlib.Core.Path.{◌≡◌, ◌∙◌, ap}
use native.Mathlib.Omega.{arith}
use mir.Syntax.{w32}
use mir.Val.{SFits}
use mir.Facts.{to_z-of_z}
use Rattle.separator.specs.Rule.{usable, halved}
use Rattle.separator.proofs.MachineStep.{read_back}
use Rattle.separator.proofs.Stepped.{Stepped, below-half, from-half}
use Rattle.separator.proofs.Separator.advance.Goals.{then-part-half_window, else-part-half_window}
use Rattle.separator.proofs.Separator.advance.Goals as goal

pub returns : goal.returns
returns g c =
    let e = c.HALF-half_window.ensures in
    let made : usable g.W.BitWindow.HALF c.args.self.now.residual ≡ c.args.self.now.residual → Stepped g.W.BitWindow.HALF c.args.self.now.residual c.args.timing c.if-part-half_window.step =
    λ is.
    elim c.if-part-half_window.branch [
      | then-part-half_window w ↦ below-half _ _ _ g.met.W.BitWindow.is_half c.requires.timed is (rw e at w.if-part-half_window.true) (rw e at w.step-is)
      | else-part-half_window w ↦ from-half _ _ _ g.met.W.BitWindow.is_half c.requires.timed is (rw e at w.if-part-half_window.false) (rw e at w.step-is)
    ] in
    let fits : SFits w32 c.if-part-half_window.step.offset = record { sfits = omega arith } in
    let half-fits : SFits w32 c.half-self.result = record { sfits = c.half-self.type_inv } in
    let left : read_back c.half-self.result ≡ halved c.if-part-half_window.step.offset = to_z-of_z half-fits ∙ c.half-self.ensures ∙ ap halved (to_z-of_z fits) in
    record { cells = λ is. (made is).answer; offset = λ is. (made is).offset; state = λ is. left ∙ (made is).state }
