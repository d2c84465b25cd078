-- Where the disk is accepted. Assumes nothing.
use Rattle.std.proofs.Common.{sym, ap, ◌∙◌, rules}
use Rattle.refusals.specs.RefusedCalls.{answer_of}
use Rattle.disk_page.proofs.Calls.{whole, part-accepted}
use Rattle.disk_page.proofs.page_part.Goals as goal

pub invariant_of-disk : goal.invariant_of-disk
invariant_of-disk c =
    record { whole = whole c.args.tracks.now c.args.findings.now (sym c.judge_tracks.ensures ∙ ap answer_of c.in_ok-judge_tracks.was) }

pub returns-clause-answer : goal.returns-clause-answer
returns-clause-answer c =
    let e = sym c.judge_tracks.ensures ∙ ap answer_of c.in_ok-judge_tracks.was in
    (part-accepted c.args.tracks.now c.args.findings.now c.args.part c.args.out.now e c.write_part.ensures.wrote).0

pub returns-clause-out : goal.returns-clause-out
returns-clause-out c =
    let e = sym c.judge_tracks.ensures ∙ ap answer_of c.in_ok-judge_tracks.was in
    let told = part-accepted c.args.tracks.now c.args.findings.now c.args.part c.args.out.now e c.write_part.ensures.wrote in
    search (rules, told.1)
