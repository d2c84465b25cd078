-- `separator::Separator::step` meets its contract. Assumes nothing.
use Prim.Native.Nat.{ℕ}
use mathlib.Core.Path.{◌≡◌, sym, ◌∙◌, ap}
use native.Mathlib.Omega.{arith}
use lib.IntN.{ℤ}
use mir.Syntax.{w32}
use mir.Val.{SFits}
use mir.Facts.{to_z-of_z}
use Rattle.separator.specs.Rule.{usable}
use Rattle.separator.proofs.MachineStep.{read_back}
use Rattle.separator.proofs.Residual.{usable-again, usable-few}
use Rattle.separator.proofs.Stepped.{half-low, half_high}
use Rattle.separator.proofs.Stepping.{step-again}
use Rattle.separator.proofs.Separator.step.Goals as goal

-- the residual that is used, as the machine reads it
read : (half : ℕ) {r u : ℤ} → SFits w32 r → SFits w32 u → u ≡ usable half (read_back r) → read_back u ≡ usable half r
read half fits used-fits e = to_z-of_z used-fits ∙ e ∙ ap (usable half) (to_z-of_z fits)

pub advance-requires : goal.advance-requires
advance-requires g c =
    let half = g.W.BitWindow.HALF in
    let r = c.args.self.now.residual in
    let u = c.usable_residual-self.result in
    let low = half-low g.met.W.BitWindow.is_half in
    let used : read_back u ≡ usable half r = read half (record { sfits = omega arith }) (record { sfits = c.usable_residual-self.type_inv }) c.usable_residual-self.ensures in
    record { timed = sym c.timing_in_range.ensures ∙ c.if-not-timing_in_range.false; few = rw used (usable-few half r (omega arith) (half_high g.met.W.BitWindow.is_half)) }

pub returns : goal.returns
returns g c =
    let half = g.W.BitWindow.HALF in
    let r = c.args.self.now.residual in
    let u = c.usable_residual-self.result in
    let low = half-low g.met.W.BitWindow.is_half in
    let used : read_back u ≡ usable half r = read half (record { sfits = omega arith }) (record { sfits = c.usable_residual-self.type_inv }) c.usable_residual-self.ensures in
    let kept : usable half (read_back u) ≡ read_back u = rw used (usable-again half r (omega arith)) in
    let a = step-again half r c.args.timing (sym c.timing_in_range.ensures ∙ c.if-not-timing_in_range.false) used kept in
    let s = c.advance.ensures in
    record { answer = s.cells kept ∙ a.0; offset = s.offset kept ∙ a.1.0; state = s.state kept ∙ a.1.1 }
