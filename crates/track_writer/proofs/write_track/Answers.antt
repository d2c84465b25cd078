-- `track_writer::write_track` meets its contract. Assumes nothing.
use Rattle.track_writer.proofs.Laws.{fits}
use Rattle.track_writer.proofs.write_track.Goals as goal

pub write_list-requires : goal.write_list-requires
write_list-requires c =
    let a = c.args in
    fits a.list.now _ _ c.count_pieces-pieces.ensures c.if-pieces-gt-MOST_PIECES.false c.if-cells-needed.false
