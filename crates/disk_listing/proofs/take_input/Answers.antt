-- `disk_listing::take_input` meets its contract. Assumes nothing but the contract of a reader's `read`.
use Rattle.disk_listing.proofs.Gathering.{not_ended, track-taken, refusal-taken}
use Rattle.disk_listing.proofs.take_input.Goals as goal

pub returns-in-Ok : goal.returns-in-Ok
returns-in-Ok g c =
    let a = c.args in
    track-taken _ c.told-cells (c.start-start.ensures.reader, c.start-start.ensures.buffer) c.read_all.ensures c.in-Ended.is _ a.tracks.now _ a.at a.findings.now _ a.from
    (c.add_file.ensures.answer, (c.add_file.ensures.tracks, c.add_file.ensures.findings)) c.in-Ok.is

pub returns-in-Err : goal.returns-in-Err
returns-in-Err g c =
    let a = c.args in
    refusal-taken _ c.told-cells (c.start-start.ensures.reader, c.start-start.ensures.buffer) c.read_all.ensures c.in-Ended.is _ a.tracks.now _ a.at a.findings.now _ a.from
    (c.add_file.ensures.answer, (c.add_file.ensures.tracks, c.add_file.ensures.findings)) c.in-Err.is

pub returns-in-Open : goal.returns-in-Open
returns-in-Open g c =
    let a = c.args in
    not_ended _ c.told-cells (c.start-start.ensures.reader, c.start-start.ensures.buffer) c.read_all.ensures a.tracks.now a.findings.now a.at a.from c.in-Open.is
