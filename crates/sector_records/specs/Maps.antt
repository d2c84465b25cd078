-- The two maps of a track that the search for its sectors leaves. Assumes nothing.
use Rattle.std.specs.Prelude.{ℕ, ◌+◌, ◌/◌, List}
use Rattle.cells.specs.CellsAndBytes.{cell}
use Rattle.cell_words.specs.Words.{Holds}
use Rattle.cell_words.specs.Tests.{one_at}
use Rattle.layouts.specs.declared.Layout.{Layout}
use Rattle.sector_records.specs.Marks.{word_mark_at}

-- words that say of each place of a track of n cells whether a one stands there, and whether a sync does, which in single density is the word of an ID
-- mark. They go on past the track's end, since data may begin there: up to word n / 64 + 68 and word n / 64 + 64
pub record TrackMaps (layout : Layout) (bytes : List ℕ) (n : ℕ) (words syncs : List ℕ) : Type 0 where
  pub ones : Holds (one_at (cell bytes n)) words (n / 64 + 68)
  pub syncs_are : Holds (word_mark_at (cell bytes n) layout.sync) syncs (n / 64 + 64)
