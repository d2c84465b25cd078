-- The track before, where there is one. Assumes nothing.
use Rattle.std.proofs.Common.{◌∙◌, arith}
use Rattle.std.proofs.lemmas.Bool.{le-ltb}
use Rattle.disk_page.proofs.Tracks.{goes-on-not, goes-on-is}
use Rattle.disk_page.proofs.Disk.goes_on.Goals as goal

pub returns-then-track-gt0 : goal.returns-then-track-gt0
returns-then-track-gt0 c = c.has_tnf.ensures ∙ goes-on-is c.args.self.now.tracks.now c.args.self.now.findings.now _ _ c.if-track-gt0.true

pub returns-else-track-gt0 : goal.returns-else-track-gt0
returns-else-track-gt0 c =
    le-ltb 0 c.args.track c.if-track-gt0.false
    ∙ goes-on-not c.args.self.now.tracks.now c.args.self.now.findings.now c.args.side c.args.track (omega arith)
