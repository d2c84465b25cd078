-- `scp_image::Head::first_bad` meets its contract: no entry so far is bad. Assumes nothing.
use Rattle.std.proofs.Common.{sym, ◌∙◌}
use Rattle.scp_image.specs.Entries.{limit_of}
use Rattle.scp_image.proofs.Entries.{found_bad, none_more, found_none}
use Rattle.scp_image.proofs.Head.first_bad.Goals as goal

pub returns-then-bad_entry : goal.returns-then-bad_entry
returns-then-bad_entry c =
    let image = c.args.self.first.now in
    found_bad image (limit_of image c.args.self.image_length) c.loop-entry.invariant c.loop-entry-test.true (sym c.bad_entry.ensures ∙ c.if-bad_entry.true)

pub loop-entry-preserved : goal.loop-entry-preserved
loop-entry-preserved c =
    let image = c.args.self.first.now in
    none_more image (limit_of image c.args.self.image_length) c.loop-entry.invariant c.loop-entry-test.true (sym c.bad_entry.ensures ∙ c.if-bad_entry.false)

pub returns : goal.returns
returns c =
    let image = c.args.self.first.now in
    found_none image (limit_of image c.args.self.image_length) c.loop-entry.invariant c.loop-entry-test.false
