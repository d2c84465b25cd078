-- `st_track::image_input` meets its contract. Assumes nothing but the contract of a reader's `read`.
use mathlib.Core.Path.{◌∙◌}
use Rattle.st_track.proofs.Imaged.{not_ended, has-image, is-refused}
use Rattle.st_track.proofs.image_input.Goals as goal

pub returns-in-Ok : goal.returns-in-Ok
returns-in-Ok g c =
    has-image _ c.told-cells (c.start-start.ensures.reader, c.start-start.ensures.buffer) c.read_all.ensures c.read_all.new.portion
    (c.read_all.auto.portion ∙ c.told-buffer) c.in-Ended.is _ c.image_file.ensures.file c.in-Ok.is

pub returns-in-Err : goal.returns-in-Err
returns-in-Err g c =
    let full = c.read_all.auto.portion ∙ c.told-buffer in
    is-refused _ c.told-cells (c.start-start.ensures.reader, c.start-start.ensures.buffer) c.read_all.ensures c.read_all.new.portion full c.in-Ended.is _
    c.image_file.ensures.file c.in-Err.is (c.write_refusal.ensures.answer, (c.write_refusal.ensures.few, c.write_refusal.ensures.out))
    (c.image_file.auto.image ∙ full)

pub returns-in-Open : goal.returns-in-Open
returns-in-Open g c =
    not_ended _ c.told-cells (c.start-start.ensures.reader, c.start-start.ensures.buffer) c.read_all.ensures c.read_all.new.portion
    (c.read_all.auto.portion ∙ c.told-buffer) (c.write_unreadable.ensures.answer, c.write_unreadable.ensures.out) c.in-Open.is
