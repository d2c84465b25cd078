-- `supercard_pro::Table::some_bad` meets its contract: no revolution so far is bad. Assumes nothing.
use Rattle.std.proofs.Common.{refl, sym, ◌∙◌}
use Rattle.supercard_pro.proofs.Revolutions.{none_more, found-bad, found_none}
use Rattle.supercard_pro.proofs.Table.some_bad.Goals as goal

pub loop-k-init : goal.loop-k-init
loop-k-init c = refl

pub returns-then-bad_revolution : goal.returns-then-bad_revolution
returns-then-bad_revolution c =
    let table = c.args.self in
    found-bad table.block.now table.revolutions _ c.loop-k.invariant c.loop-k-test.true (sym c.bad_revolution.ensures ∙ c.if-bad_revolution.true)

pub loop-k-preserved : goal.loop-k-preserved
loop-k-preserved c =
    let table = c.args.self in
    none_more table.block.now table.revolutions _ c.loop-k.invariant c.loop-k-test.true (sym c.bad_revolution.ensures ∙ c.if-bad_revolution.false)

pub returns : goal.returns
returns c =
    let table = c.args.self in
    found_none table.block.now table.revolutions _ c.loop-k.invariant c.loop-k-test.false
