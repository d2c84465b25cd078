-- `track_writer::write_list` meets its contract. Assumes nothing.
use Rattle.track_writer.proofs.Laws.{wrote_none, wrote-fits, wrote-step, wrote-all}
use Rattle.track_writer.proofs.write_list.Goals as goal

pub loop-byte-init : goal.loop-byte-init
loop-byte-init c = wrote_none _ _

pub put_byte-at-requires : goal.put_byte-at-requires
put_byte-at-requires c =
    let l = c.loop-byte in
    (c.cell_table-table.ensures, wrote-fits _ _ l.writer l.cells l.at l.byte-index l.invariant c.loop-byte-test.true c.requires)

pub loop-byte-preserved : goal.loop-byte-preserved
loop-byte-preserved c =
    let l = c.loop-byte in
    wrote-step _ _ l.writer l.cells l.at l.byte-index l.invariant c.loop-byte-test.true _ _ _
    c.requires
    c.step-writer.ensures c.put_byte-at.ensures

pub returns : goal.returns
returns c = wrote-all _ _ _ _ _ _ c.loop-byte.invariant c.loop-byte-test.false
