-- `write_track::write_unreadable` meets its contract. Assumes nothing.
use mathlib.Core.Path.{refl}
use native.Mathlib.Omega.{arith}
use lib.ListN.{length-drop}
use Rattle.lines.specs.Lines.{bytes_of}
use Rattle.write_track.proofs.Outputs.{unreadable-made}
use Rattle.write_track.proofs.write_unreadable.Goals as goal

pub returns : goal.returns
unfolding bytes_of
returns c = unreadable-made (rw c.copy_from_slice.ensures.after (omega (arith, length-drop 48 c.args.out.now, c.told-out))) refl (rw c.copy_from_slice.ensures.after)
