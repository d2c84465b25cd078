-- The finding's own entry, or that of the range that it begins. Assumes nothing.
use Rattle.std.proofs.Common.{sym, ◌∙◌, refl}
use Rattle.disk_page.specs.Page.{line_of}
use Rattle.disk_page.proofs.Lines.{wrote-other, wrote-first, wrote-no-more}
use Rattle.disk_page.proofs.Disk.write_finding.Goals as goal
use Rattle.disk_page.proofs.Disk.write_finding.Goals.{then-kind-ne4, else-kind-ne4+else-goes_on}

pub returns-then-goes_on : goal.returns-then-goes_on
returns-then-goes_on c =
    let no_more = wrote-no-more _ _ c.args.self.now.tracks.now c.args.self.now.findings.now c.args.side c.args.track c.args.j c.if-kind-ne4.false (sym c.goes_on.ensures ∙ c.if-goes_on.true) in
    record { wrote = no_more; same_buffer = refl }

pub returns : goal.returns
unfolding line_of
returns c =
    let w = c.entry.ensures in
    elim c.if-kind-ne4.branch [
      | then-kind-ne4 b ↦
          let other = wrote-other c.args.self.now.tracks.now c.args.self.now.findings.now c.args.side c.args.track c.args.j b.if-kind-ne4.true (rw b.last_track-is at w.wrote) in
          record { wrote = other; same_buffer = w.same_buffer }
      | else-kind-ne4+else-goes_on b ↦
          let first = wrote-first c.args.self.now.tracks.now c.args.self.now.findings.now c.args.side c.args.track c.args.j b.if-kind-ne4.false (sym b.goes_on.ensures ∙ b.if-goes_on.false) (b.last_track-is ∙ b.last_of.ensures) w.wrote in
          record { wrote = first; same_buffer = w.same_buffer }
    ]
