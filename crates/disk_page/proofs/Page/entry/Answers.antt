-- The line is written to the part of the buffer behind the page's place. Assumes nothing.
use Rattle.std.proofs.Common.{ℕ, ◌+◌, ap, refl}
use Rattle.lines.proofs.Writing.{answer_is, out_is}
use Rattle.disk_lines.proofs.Writing.{part-wrote}
use Rattle.disk_page.proofs.Page.entry.Goals as goal

pub returns : goal.returns
returns c =
    let w = c.entry_line.ensures in
    record { wrote = part-wrote _ _ _ _ c.min-from.ensures (out_is w) w.few (ap (λ (n : ℕ). c.args.self.now.at + n) (answer_is w)); same_buffer = refl }
