-- `scp_track::read_usual` meets its contract. Assumes nothing but the contract of a reader's `read`.
use native.Mathlib.Omega.{arith}
use Rattle.scp_track.proofs.Reading.{listed-where-stopped, listed-on, whole_room}
use Rattle.scp_track.proofs.read_usual.Goals as goal

pub returns-then-input-lt524288-clause-listing : goal.returns-then-input-lt524288-clause-listing
returns-then-input-lt524288-clause-listing g c =
    let read = c.read_on-input.ensures in
    listed-where-stopped read.brought (read.stopped (omega (arith, c.read_on-input.auto.room, c.told-block, c.if-input-lt524288.true)))
    (record { answer = c.list_read.ensures.answer; few = c.list_read.ensures.few; out = c.list_read.ensures.out })

pub returns-clause-listing : goal.returns-clause-listing
returns-clause-listing g c = listed-on (whole_room c.read_on-input.ensures.brought (omega (arith, c.read_on-input.auto.room, c.told-block, c.if-input-lt524288.false))) c.list_longer.ensures.listing
