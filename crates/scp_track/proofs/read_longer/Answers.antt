-- `scp_track::read_longer` meets its contract. Assumes nothing but the contract of a reader's `read`.
use native.Mathlib.Omega.{arith}
use Rattle.scp_track.proofs.Reading.{listed-where-stopped, listed-where-full, brought-on, whole_room}
use Rattle.scp_track.proofs.read_longer.Goals as goal

pub returns-then-input-lt4194304-clause-listing : goal.returns-then-input-lt4194304-clause-listing
returns-then-input-lt4194304-clause-listing g c =
    let read = c.read_on-input.ensures in
    let brought = brought-on c.args.front.now c.args.block.now (omega (arith, c.told-block, c.requires)) c.copy.ensures read.brought in
    listed-where-stopped brought (read.stopped (omega (arith, c.read_on-input.auto.room, c.copy.auto.list, c.told-block, c.if-input-lt4194304.true)))
    (record { answer = c.list_read.ensures.answer; few = c.list_read.ensures.few; out = c.list_read.ensures.out })

pub returns-clause-listing : goal.returns-clause-listing
returns-clause-listing g c =
    let read = c.read_on-input in
    let brought = brought-on c.args.front.now c.args.block.now (omega (arith, c.told-block, c.requires)) c.copy.ensures read.ensures.brought in
    listed-where-full (whole_room brought (omega (arith, read.auto.room, c.copy.auto.list, c.told-block, c.if-input-lt4194304.false))) (omega (arith, read.auto.room, c.copy.auto.list, c.told-block)) c.read_further-further.ensures
    (record { answer = c.list_read-2.ensures.answer; few = c.list_read-2.ensures.few; out = c.list_read-2.ensures.out })
