-- `track_writer::count_pieces` meets its contract. Assumes nothing.
use Rattle.track_writer.proofs.Laws.{count-more, count-done, counted, counted-above}
use borrow.Author.Rules.{rules}
use Rattle.track_writer.proofs.count_pieces.Goals as goal

pub returns-then-count-gt-MOST_PIECES : goal.returns-then-count-gt-MOST_PIECES
returns-then-count-gt-MOST_PIECES c = counted-above _ c.loop-byte.byte-index c.loop-byte.count c.if-count-gt-MOST_PIECES.true c.loop-byte.invariant.1

pub loop-byte-preserved : goal.loop-byte-preserved
loop-byte-preserved c =
    let l = c.loop-byte in
    (search rules, rw c.pieces_for-count.ensures.0 (count-more _ l.byte-index l.count _ c.loop-byte-test.true l.invariant.1))

pub returns : goal.returns
returns c = counted _ _ (count-done _ c.loop-byte.byte-index _ _ c.loop-byte-test.false c.loop-byte.invariant.1)
