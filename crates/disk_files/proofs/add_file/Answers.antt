-- The track of an accepted file. Assumes nothing.
use Rattle.disk_files.proofs.Added.{accepted-file}
use Rattle.disk_files.proofs.add_file.Goals as goal

pub returns : goal.returns
returns c =
    let a = c.args in
    let t = c.add_track.ensures in
    let both = accepted-file a.tracks.now _ a.at a.findings.now _ a.from a.cells.now _ c.in_ok-read.read c.finish.ensures.answer c.in_ok-read.was c.from.ensures c.from-2.ensures (t.answer, (t.tracks, t.findings)) in
    record { answer = both.0; tracks = both.1.0; findings = both.1.1 }
