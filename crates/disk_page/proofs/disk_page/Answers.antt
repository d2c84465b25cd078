-- Where the disk is accepted. Assumes nothing.
use Rattle.std.proofs.Common.{sym, ap, ◌∙◌, rules}
use Rattle.refusals.specs.RefusedCalls.{answer_of}
use Rattle.disk_page.proofs.Calls.{whole, accepted-told}
use Rattle.disk_page.proofs.disk_page.Goals as goal

pub invariant_of-disk : goal.invariant_of-disk
invariant_of-disk c =
    record { whole = whole c.args.tracks.now c.args.findings.now (sym c.judge_tracks.ensures ∙ ap answer_of c.in_ok-judge_tracks.was) }

pub returns-clause-answer : goal.returns-clause-answer
returns-clause-answer c =
    let e = sym c.judge_tracks.ensures ∙ ap answer_of c.in_ok-judge_tracks.was in
    (accepted-told c.args.tracks.now c.args.findings.now c.args.out.now e c.write_page.ensures.wrote).0

pub returns-clause-out : goal.returns-clause-out
returns-clause-out c =
    let e = sym c.judge_tracks.ensures ∙ ap answer_of c.in_ok-judge_tracks.was in
    let told = accepted-told c.args.tracks.now c.args.findings.now c.args.out.now e c.write_page.ensures.wrote in
    search (rules, told.1)
