-- What only the contract of a private function needs. Assumes nothing.
use Rattle.std.specs.Prelude.{ℕ, ◌+◌, ◌*◌, List, get_or}
use Rattle.lines.specs.Lines.{finding_line}

-- the line of finding i of those that stand in a list of numbers
unfoldable pub line_at : List ℕ → ℕ → List ℕ
line_at numbers i = finding_line (get_or numbers (4 * i) 0) (get_or numbers (4 * i + 1) 0) (get_or numbers (4 * i + 2) 0) (get_or numbers (4 * i + 3) 0)
