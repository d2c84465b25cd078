-- `revolution_portions::RevolutionReader::take` meets its contract. Assumes nothing.
use Rattle.std.proofs.Common.{arith}
use Rattle.revolution_values.specs.Values.{capped}
use Rattle.revolution_portions.proofs.Taking.{take-too-many, take-one-out, take-no-room, take-given}
use Rattle.revolution_portions.proofs.Timings.{ending-few}
use Rattle.revolution_portions.proofs.RevolutionReader.take.Goals as goal

pub overflow_add-all : goal.overflow_add-all
overflow_add-all c =
    omega (arith, c.usable-reader.ensures.few_timings, c.pass-seen.ensures.count, ending-few (capped c.usable-reader.result.unfinished) c.args.portion.now)

pub returns-then-all-gt-MOST_TIMINGS : goal.returns-then-all-gt-MOST_TIMINGS
returns-then-all-gt-MOST_TIMINGS c =
    let seen = c.pass-seen.ensures in
    take-too-many _ _ _ c.usable-reader.ensures.is seen.unfinished seen.count seen.out c.if-all-gt-MOST_TIMINGS.true

pub returns-in-Some : goal.returns-in-Some
returns-in-Some c =
    let seen = c.pass-seen.ensures in
    take-one-out _ _ _ c.usable-reader.ensures.is seen.unfinished seen.count seen.out c.if-all-gt-MOST_TIMINGS.false c.in-Some.is

pub returns-then-timings-count : goal.returns-then-timings-count
returns-then-timings-count c =
    let seen = c.pass-seen.ensures in
    take-no-room _ _ _ c.usable-reader.ensures.is seen.unfinished seen.count seen.out c.if-all-gt-MOST_TIMINGS.false c.in_default.is c.if-timings-count.true

pub returns : goal.returns
returns c =
    let seen = c.pass-seen.ensures in
    take-given _ _ _ c.usable-reader.ensures.is seen.unfinished seen.count seen.out c.if-all-gt-MOST_TIMINGS.false c.in_default.is c.if-timings-count.false
    c.pass.ensures.list
