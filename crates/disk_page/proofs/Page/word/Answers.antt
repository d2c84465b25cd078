-- The word is written to the part of the buffer behind the page's place. Assumes nothing.
use Rattle.std.proofs.Common.{refl}
use native.Mathlib.Nat.{le_refl}
use Rattle.disk_lines.proofs.Writing.{part-wrote}
use Rattle.disk_page.proofs.Page.word.Goals as goal

pub returns : goal.returns
returns c = record { wrote = part-wrote _ _ _ _ c.min-from.ensures c.copy.ensures (le_refl _) refl; same_buffer = refl }
