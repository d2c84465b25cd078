-- `write_track::write_file` meets its contract. Assumes nothing.
use native.Mathlib.Omega.{arith}
use Rattle.write_track.proofs.Parts.{file-at_front}
use Rattle.write_track.proofs.write_file.Goals as goal

pub returns : goal.returns
returns c =
    file-at_front c.args.track c.args.side c.args.count c.args.cells.now c.args.out.now (omega (arith, c.told-out, c.requires.cells)) c.to_le_bytes.ensures
    c.copy_from_slice.ensures.after c.copy_from_slice-2.ensures.after c.copy_from_slice-3.ensures.after
