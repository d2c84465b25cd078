-- What only the contracts of private functions need. Assumes nothing.
use Rattle.std.specs.Prelude.{ℕ, ◌≤◌, ◌≡◌, List}
use Rattle.disk_page.specs.declared.Page.{Page}
use Rattle.lines.specs.Writing.{Wrote}
use Rattle.disk_tracks.specs.Given.{tracks_in, before, findings_in}

-- what the functions ask of tracks and findings: not too many tracks, and as many findings as they say
pub record Whole (tracks findings : List ℕ) : Type 0 where
  pub few : tracks_in tracks ≤ 168
  pub sum : before tracks (tracks_in tracks) ≡ findings_in findings

-- places lie below this number, so that no sum can overflow
abbrev pub far : ℕ
far = 0x1000_0000_0000_0000

-- the bytes `made`, at most `most` of them, are written where the page stands, and it stands behind them; it still has the same buffer
pub record WroteOn (before after : Page) (made : List ℕ) (most : ℕ) : Type 0 where
  pub wrote : Wrote before.out.now before.at made most after.out.now after.at
  pub same_buffer : after.out.ghost_name ≡ before.out.ghost_name
