-- `flux_to_cells::convert_input` meets its contract. Assumes nothing but the contract of a reader's `read`.
use mathlib.Core.Path.{◌≡◌, ◌∙◌}
use native.Mathlib.Omega.{arith}
use Rattle.lines.proofs.Lengths.{some_refused}
use Rattle.flux_to_cells.proofs.Converted.{not_ended, has-file, is-refused, some_converted}
use Rattle.flux_to_cells.proofs.convert_input.Goals as goal

pub returns-in-Ok-clause-file : goal.returns-in-Ok-clause-file
returns-in-Ok-clause-file g c =
    let full = c.read_all.auto.portion ∙ c.told-buffer in
    has-file _ c.told-cells (c.start-start.ensures.reader, c.start-start.ensures.buffer) c.read_all.ensures c.read_all.new.portion full c.in-Ended.is _
    c.convert.ensures.file c.in-Ok.is (c.convert.auto.out ∙ full)

pub returns-in-Err-clause-file : goal.returns-in-Err-clause-file
returns-in-Err-clause-file g c =
    let full = c.read_all.auto.portion ∙ c.told-buffer in
    is-refused _ c.told-cells (c.start-start.ensures.reader, c.start-start.ensures.buffer) c.read_all.ensures c.read_all.new.portion full c.in-Ended.is _
    c.convert.ensures.file c.in-Err.is c.number.ensures c.number.type_inv (c.refused_line.ensures.answer, c.refused_line.ensures.out)
    (c.convert.auto.out ∙ full) c.refused_line.auto.out

pub returns-in-Open-clause-file : goal.returns-in-Open-clause-file
returns-in-Open-clause-file g c =
    not_ended _ c.told-cells (c.start-start.ensures.reader, c.start-start.ensures.buffer) c.read_all.ensures _ c.in-Open.is

pub returns-in-Ok-clause-told : goal.returns-in-Ok-clause-told
returns-in-Ok-clause-told g c e =
    let none : c.in-Ok.count ≡ 0 = cc in
    let some = some_converted _ _ _ c.in-Ok.ensures.answer in
    omega (arith, none, some)

pub returns-in-Err-clause-told : goal.returns-in-Err-clause-told
returns-in-Err-clause-told g c e =
    let none : c.refused_line.result ≡ 0 = cc in
    omega (arith, none, c.refused_line.ensures.answer, some_refused c.number.result)
