-- `mfm::byte_on` meets its contract. Assumes nothing.
use Rattle.cells.specs.CellsAndBytes.{cell}
use Rattle.cells.proofs.Places.{cell-lt}
use Rattle.mfm.proofs.Decoder.{by_word}
use Rattle.mfm.proofs.byte_on.Goals as goal

pub returns : goal.returns
returns c =
    let a = c.args in
    rw (c.nibble.ensures.0, c.nibble-2.ensures.0)
    (by_word (cell a.cells.bytes.now a.cells.count) (cell-lt a.cells.bytes.now a.cells.count) a.p _ c.sixteen_cells-word.ensures.0)
