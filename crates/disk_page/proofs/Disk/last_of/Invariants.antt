-- The search from the track at hand on finds what the whole search does. Assumes nothing.
use Rattle.std.proofs.Common.{◌≡◌, ◌+◌, ◌-◌, not}
use Rattle.basis.specs.Search.{least}
use Rattle.disk_page.specs.Ranges.{has_tnf, last_of}
use Rattle.disk_page.proofs.Disk.last_of.Given as goal

abbrev pub invariant-loop-last : goal.invariant-loop-last
invariant-loop-last l =
    least (λ U. not (has_tnf l.self.tracks.now l.self.findings.now l.side (U + 1))) (84 - l.last) l.last ≡ last_of l.self.tracks.now l.self.findings.now l.side l.track
