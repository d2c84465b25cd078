-- `scp_image::image_entries` meets its contract: any two blocks are apart. Assumes nothing.
use Rattle.std.proofs.Common.{ap, ◌∙◌, sym}
use Rattle.scp_image.proofs.Judging.{judged_gives}
use Rattle.scp_image.proofs.Laws.{placed}
use Rattle.scp_image.proofs.image_entries.Goals as goal

pub returns-clause-placed : goal.returns-clause-placed
returns-clause-placed c =
    let head = c.in_ok-head.ensures in
    placed (ap (λ f. f.now) (judged_gives _ _ head.first)) (judged_gives _ _ head.length) (sym c.in_default.is ∙ c.first_bad.ensures) c.tracks_there.result
