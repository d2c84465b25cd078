-- `track_input::input_with` meets its contract. Assumes nothing.
use mathlib.Core.Path.{sym, ap, ◌∙◌}
use mathlib.Core.Bool.{true, false}
use lib.IntN.{ℤ}
use mir.Facts.{to_z-of_z}
use Rattle.track_input.specs.Reading.{input_with}
use Rattle.track_input.proofs.Reading.{failed, brought, at-end}
use Rattle.track_input.proofs.input_with.Goals as goal

pub returns-then-got-lt0 : goal.returns-then-got-lt0
returns-then-got-lt0 g c =
    let start = c in
    failed _ _ _ c.if-got-lt0.true ∙ ap (λ (z : ℤ). input_with g.F.Format.steps z c.args.reader) (to_z-of_z c.ranges.got)

pub returns-then-stopped : goal.returns-then-stopped
returns-then-stopped g c =
    let start = c in
    brought _ _ _ {stopped = true} c.if-got-gt0.true (sym c.if-stopped.true ∙ c.stopped.ensures)
    ∙ ap (λ (z : ℤ). input_with g.F.Format.steps z c.args.reader) (to_z-of_z c.ranges.got)

pub returns-then-got-gt0 : goal.returns-then-got-gt0
returns-then-got-gt0 g c =
    let start = c in
    brought _ _ _ {stopped = false} c.if-got-gt0.true (sym c.if-stopped.false ∙ c.stopped.ensures)
    ∙ ap (λ (z : ℤ). input_with g.F.Format.steps z c.args.reader) (to_z-of_z c.ranges.got)

pub returns : goal.returns
returns g c =
    let start = c in
    at-end _ _ _ c.if-got-lt0.false c.if-got-gt0.false ∙ ap (λ (z : ℤ). input_with g.F.Format.steps z c.args.reader) (to_z-of_z c.ranges.got)
