-- What private functions ask of the numbers of a layout, so that no sum of places overflows. Both layouts have it (proofs/Soundness). Assumes
-- nothing.
use Rattle.std.specs.Prelude.{ℕ, ◌≤◌}
use Rattle.layouts.specs.declared.Layout.{Layout}

pub record Sound (layout : Layout) : Type 0 where
  pub mark : layout.mark_length ≤ 64
  pub byte : layout.byte_place ≤ 48
  pub id : layout.id_length ≤ 160
  pub near : layout.reach ≤ 784
  pub order : layout.id_length ≤ layout.reach
  pub cells : layout.fewest_cells ≤ layout.most_cells
