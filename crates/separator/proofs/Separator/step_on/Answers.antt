-- `separator::Separator::step_on` meets its contract. Assumes nothing.
use mathlib.Core.Path.{◌≡◌, sym, ◌∙◌}
use native.Mathlib.Omega.{arith}
use Rattle.separator.specs.Rule.{usable}
use Rattle.separator.proofs.Stepped.{Kept-as-is, out-of-range, too-much}
use Rattle.separator.proofs.Separator.step_on.Goals.{then-not-timing_in_range-via-then-not-timing_in_range, then-not-timing_in_range-via-else-not-timing_in_range+then-self-gt-MOST_RESIDUAL}
use Rattle.separator.proofs.Separator.step_on.Goals as goal

pub returns-then-not-timing_in_range : goal.returns-then-not-timing_in_range
returns-then-not-timing_in_range g c =
    let kept : usable g.W.BitWindow.HALF c.args.self.now.residual ≡ c.args.self.now.residual → Kept-as-is g.W.BitWindow.HALF c.args.self.now.residual c.args.timing =
    λ is.
    elim c.then-not-timing_in_range.branch [
      | then-not-timing_in_range-via-then-not-timing_in_range w ↦ out-of-range (sym c.timing_in_range.ensures ∙ w.if-not-timing_in_range.true)
      | then-not-timing_in_range-via-else-not-timing_in_range+then-self-gt-MOST_RESIDUAL w ↦
          too-much g.met.W.BitWindow.is_half (record { sfits = omega arith }) is w.if-self-gt-MOST_RESIDUAL.true
    ] in
    record { answer = λ is. (kept is).answer; offset = λ is. (kept is).offset; state = λ is. (kept is).state }
