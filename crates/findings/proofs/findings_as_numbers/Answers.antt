-- `findings::findings_as_numbers` meets its contract: what is copied is the front of the numbers. Assumes nothing.
use mathlib.Core.Path.{sym, ◌∙◌}
use native.Mathlib.Omega.{arith}
use Rattle.findings.proofs.Outcome.{kept-refused, written-given, numbers-written}
use Rattle.findings.proofs.findings_as_numbers.Goals as goal

pub returns-in_err-found-clause-list : goal.returns-in_err-found-clause-list
returns-in_err-found-clause-list c = kept-refused _ _ _ c.in_err-found.ensures.answer _ _

pub overflow_mul-numbers : goal.overflow_mul-numbers
overflow_mul-numbers c = let l = c.in_ok-found in omega (arith, (l.ensures.numbers l.found.findings (sym l.ensures.answer)).few)

pub slice_bounds-numbers-end : goal.slice_bounds-numbers-end
slice_bounds-numbers-end c = let l = c.in_ok-found in omega (arith, (l.ensures.numbers l.found.findings (sym l.ensures.answer)).few)

pub returns-clause-list : goal.returns-clause-list
returns-clause-list c =
    let l = c.in_ok-found in
    let n = l.ensures.numbers l.found.findings (sym l.ensures.answer) in
    c.copy.ensures ∙ numbers-written _ _ c.args.list.now _ n ∙ written-given _ _ l.ensures.answer _ c.args.list.now
