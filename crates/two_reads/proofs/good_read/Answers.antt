-- `two_reads::good_read` meets its contract: the slice that it makes of a read is the part of the answer. Assumes nothing.
use mathlib.Core.Path.{refl, sym}
use mathlib.Core.Bool.{true, false}
use lib.Seq.{length-take-le}
use Rattle.two_reads.proofs.Parts.{fits, is-part, is_none}
use Rattle.two_reads.proofs.good_read.Goals as goal

pub slice_bounds-result-end : goal.slice_bounds-result-end
slice_bounds-result-end c = sym (length-take-le _ _ (fits _ _ _ c.good_part.ensures c.in-Ok.is true c.if-part.true))

pub returns-then-part : goal.returns-then-part
returns-then-part c = is-part _ _ _ c.good_part.ensures c.in-Ok.is true c.if-part.true _ refl refl

pub slice_bounds-result-end-in-Ok : goal.slice_bounds-result-end-in-Ok
slice_bounds-result-end-in-Ok c = sym (length-take-le _ _ (fits _ _ _ c.good_part.ensures c.in-Ok.is false c.if-part.false))

pub returns-else-part : goal.returns-else-part
returns-else-part c = is-part _ _ _ c.good_part.ensures c.in-Ok.is false c.if-part.false _ refl refl

pub returns-in-Err : goal.returns-in-Err
returns-in-Err c = is_none _ _ _ c.good_part.ensures c.in-Err.is _ refl refl
