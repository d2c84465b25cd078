-- `track_listing::list_input` meets its contract. Assumes nothing but the contract of a reader's `read`.
use mathlib.Core.Path.{◌≡◌}
use native.Mathlib.Omega.{arith}
use Rattle.track_file.specs.Portions.{finish_answer}
use Rattle.file_listing.proofs.Laws.{some_printed}
use Rattle.track_listing.proofs.Listing.{not_ended, has_ended}
use Rattle.track_listing.proofs.list_input.Goals as goal

pub returns-in-Ended-clause-listing : goal.returns-in-Ended-clause-listing
returns-in-Ended-clause-listing g c =
    has_ended _ (c.start-start.ensures.reader, c.start-start.ensures.buffer) c.read_all.ensures c.in-Ended.is c.list_file.ensures.file
    (omega (arith, c.list_file.ensures.few, c.read_all.auto.portion))

pub returns-in-Open-clause-listing : goal.returns-in-Open-clause-listing
returns-in-Open-clause-listing g c = not_ended _ (c.start-start.ensures.reader, c.start-start.ensures.buffer) c.read_all.ensures _ c.in-Open.is

pub returns-in-Ended-clause-told : goal.returns-in-Ended-clause-told
returns-in-Ended-clause-told g c e =
    let none : c.list_file.result ≡ 0 = cc in
    omega (arith, none, c.list_file.ensures.answer, some_printed (finish_answer c.in-Ended.reader) c.read_all.new.cells)
