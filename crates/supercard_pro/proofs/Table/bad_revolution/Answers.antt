-- `supercard_pro::Table::bad_revolution` meets its contract. Assumes nothing.
use Rattle.std.proofs.Common.{refl, arith}
use Rattle.supercard_pro.proofs.Revolutions.{starts-in-table, ends-beyond, no-values, last-value}
use Rattle.supercard_pro.proofs.Table.bad_revolution.Goals as goal

pub returns-then-from-table_end : goal.returns-then-from-table_end
returns-then-from-table_end c = starts-in-table _ _ _ c.value_offset-from.ensures.is refl (omega (arith, c.if-from-table_end.true, c.table_end.ensures))

pub returns-then-block-to : goal.returns-then-block-to
returns-then-block-to c =
    ends-beyond _ _ _ c.value_offset-from.ensures.is c.value_count-count.ensures.is (omega (arith, c.if-from-table_end.false, c.table_end.ensures)) c.if-block-to.true

pub returns-then-count-eq0 : goal.returns-then-count-eq0
returns-then-count-eq0 c =
    no-values _ _ _ c.value_offset-from.ensures.is c.value_count-count.ensures.is (omega (arith, c.if-from-table_end.false, c.table_end.ensures)) c.if-block-to.false
    c.if-count-eq0.true

pub returns : goal.returns
returns c =
    last-value _ _ _ c.value_offset-from.ensures.is c.value_count-count.ensures.is (omega (arith, c.if-from-table_end.false, c.table_end.ensures)) c.if-block-to.false
    c.if-count-eq0.false c.two_bytes.ensures
