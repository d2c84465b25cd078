-- `cell_patterns::violation_map` meets its contract: each density with its map. Assumes nothing.
use Rattle.cell_words.specs.Tests.{one_at, alone_at, gap_from}
use Rattle.cell_words.proofs.Words.{holds_same}
use Rattle.layouts.specs.Layouts.{single_density, double_density}
use Rattle.cell_patterns.specs.Cells.{violation}
use Rattle.cell_patterns.proofs.Violations.{single-is, double-is}
use Rattle.cell_patterns.proofs.violation_map.Goals as goal

pub returns-in-Single : goal.returns-in-Single
returns-in-Single c f n h m b l =
    let a = c.alone_map.ensures (one_at f) m b l in
    rw c.in-Single.is (a.0, holds_same (alone_at (one_at f)) (violation single_density f n) (λ q. single-is f n q h) _ _ a.1)

pub returns-in-Double : goal.returns-in-Double
returns-in-Double c f n h m b l =
    let o = one_at f in
    let a = c.alone_map.ensures o m b l in
    let g = c.gap_map.ensures o (alone_at o) m a.1 b a.0 in
    rw c.in-Double.is (g.0, holds_same (gap_from o (alone_at o)) (violation double_density f n) (λ q. double-is f n q h) _ _ g.1)
