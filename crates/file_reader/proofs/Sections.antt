-- Where the reader stands after a byte of packed cells: the two branches of the code. Assumes nothing.
use Prim.Native.Nat.{ℕ, ◌+◌, ◌≤◌, ◌<◌}
use mathlib.Core.Path.{◌≡◌}
use borrow.Author.Tests.{lt-ltb, le-ltb}
use Rattle.cells.specs.CellsAndBytes.{bytes_for}
use Rattle.file_reader.specs.Bytes.{after_packed_byte}
use Rattle.file_reader.specs.declared.Place.{Place}
use Rattle.file_reader.specs.declared.Number.TheVariants.{Empty}
use Rattle.file_reader.specs.declared.Reader.TheVariants.{PackedCells, FluxCount}

module _ (place : Place) (count at : ℕ) where
  pub more_bytes : at + 1 < bytes_for count → PackedCells place count (at + 1) ≡ after_packed_byte place count at
  unfolding after_packed_byte
  more_bytes h = rw (lt-ltb (at + 1) (bytes_for count) h)

  pub last_byte : bytes_for count ≤ at + 1 → FluxCount place count Empty ≡ after_packed_byte place count at
  unfolding after_packed_byte
  last_byte h = rw (le-ltb (at + 1) (bytes_for count) h)
