-- What the contract of the function needs that writes the new file. Assumes nothing.
use Rattle.std.specs.Prelude.{◌≤◌, ◌≡◌}
use Rattle.refusals.specs.RefusedCalls.{Answer}
use Rattle.refusals.specs.RefusedCalls.Answer.{gives}
use Rattle.track_file.specs.TrackFile.{Content}

-- a file gives at most 131,072 cells
abbrev pub FewCells : Answer Content → Type 0
FewCells answer = (content : Content) → answer ≡ gives content → content.cells ≤ 131072
