-- `disk_files::put` meets its contract. Assumes nothing.
use mathlib.Core.Path.{refl}
use native.Mathlib.Nat.{le_refl}
use Rattle.disk_lines.proofs.Writing.{part-wrote}
use Rattle.disk_files.proofs.put.Goals as goal

pub returns : goal.returns
returns c = (part-wrote _ _ _ _ c.min-start.ensures c.copy.ensures (le_refl _) refl).bytes
