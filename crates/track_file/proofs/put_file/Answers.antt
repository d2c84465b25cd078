-- `track_file::put_file` meets its contract. Assumes nothing.
use Rattle.track_file.proofs.Writing.{file-written}
use Rattle.track_file.proofs.put_file.Goals as goal

pub returns : goal.returns
returns c =
    file-written c.args.track c.args.side c.args.count c.args.cells.now c.args.out.now c.to_le_bytes.ensures c.copy_from_slice.ensures.after
    c.copy_from_slice-2.ensures.after c.copy_from_slice-3.ensures.after
