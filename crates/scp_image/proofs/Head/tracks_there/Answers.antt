-- `scp_image::Head::tracks_there` meets its contract: the entries so far are counted. Assumes nothing.
use Rattle.std.proofs.Common.{◌∙◌, refl}
use Rattle.scp_image.proofs.Entries.{one_or_none, one_tallied, all_tallied}
use Rattle.scp_image.proofs.Head.tracks_there.Goals as goal

pub loop-entry-preserved : goal.loop-entry-preserved
loop-entry-preserved c =
    one_tallied _ _ c.loop-entry.invariant c.loop-entry-test.true (c.from-tracks.ensures ∙ one_or_none _ ∙ rw c.start_of.ensures refl)

pub returns : goal.returns
returns c = all_tallied _ _ c.loop-entry.invariant c.loop-entry-test.false
