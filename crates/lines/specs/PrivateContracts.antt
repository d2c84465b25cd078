-- What only the contracts of private functions need. Assumes nothing.
use Rattle.std.specs.Prelude.{ℕ, ◌≡◌, List}
use Rattle.lines.specs.Writing.{Wrote}
use Rattle.lines.specs.declared.Line.{Line}

-- the bytes `made`, at most `most` of them, are written where the line stands, and it stands behind them; it still has the same buffer
pub record WroteOn (before after : Line) (made : List ℕ) (most : ℕ) : Type 0 where
  pub wrote : Wrote before.out.now before.at made most after.out.now after.at
  pub same_buffer : after.out.ghost_name ≡ before.out.ghost_name
