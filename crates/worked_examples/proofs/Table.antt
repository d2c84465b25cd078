-- The examples of rules 1.17, 2.4, 3.13 and 3.18 hold, each by computation. Assumes nothing.
use mathlib.Core.Path.{refl}
use Rattle.basis.specs.Lists.{listed}
use Rattle.cells.specs.CellsAndBytes.{word, packed_byte, packed}
use Rattle.crc.specs.CheckWord.{after_bit, after_bits, after_byte, check_word_from}
use Rattle.separator.specs.Rule.{reading, cells_at, offset_at, halved, residual_after, is_border_by, border_pulses_at_by}
use Rattle.separation.specs.Separation.{windows_from, border_pulses_in}
use Rattle.mfm.specs.Coding.{data_bits, bit_cells, encoded}
use Rattle.worked_examples.specs.WorkedExamples.{AllHold, table}

pub table-holds : AllHold table
unfolding listed word packed_byte packed after_bit after_bits after_byte check_word_from reading cells_at offset_at halved residual_after is_border_by border_pulses_at_by windows_from border_pulses_in data_bits bit_cells encoded
table-holds = (
  (refl, refl, refl),
  (
    (refl, refl, refl),
    (
      (refl, refl, refl),
      (
        (refl, refl, refl),
        (
          (refl, refl, refl),
          (
            (refl, refl, refl),
            (refl, (refl, (refl, (refl, (refl, (refl, (refl, (refl, (refl, (refl, (refl, tt))))))))))),
          ),
        ),
      ),
    ),
  ),
)
