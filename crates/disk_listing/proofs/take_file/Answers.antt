-- `disk_listing::take_file` meets its contract. Assumes nothing but the contracts of the system's calls.
use Rattle.disk_listing.proofs.Gathering.{no-file}
use Rattle.disk_listing.proofs.take_file.Goals as goal

pub returns-in-Err : goal.returns-in-Err
returns-in-Err g c =
    let a = c.args in
    no-file a.tracks.now a.findings.now a.at a.from
