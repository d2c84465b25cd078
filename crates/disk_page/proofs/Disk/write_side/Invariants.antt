-- The lines of the first tracks are written. Assumes nothing.
use Rattle.std.proofs.Common.{◌*◌}
use Rattle.basis.specs.Lists.{joined}
use Rattle.disk_page.specs.Page.{track_entries, entry_lines}
use Rattle.disk_page.specs.PrivateContracts.{WroteOn}
use Rattle.disk_page.proofs.Disk.write_side.Given as goal

abbrev pub invariant-loop-track : goal.invariant-loop-track
invariant-loop-track l =
    WroteOn l.initial.page l.page (entry_lines (joined (track_entries l.self.tracks.now l.self.findings.now l.side) l.track)) (168 * (80 * 0x1_0000_0000) * l.track)
