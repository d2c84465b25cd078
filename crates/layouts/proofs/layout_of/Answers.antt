-- `layouts::layout_of` meets its contract: each table, number by number. Assumes nothing.
use mathlib.Core.Path.{refl}
use Rattle.crc.specs.CheckWord.{after_bit, after_bits, after_byte, check_word_from}
use Rattle.layouts.specs.Layouts.{double_density, single_density}
use Rattle.layouts.specs.declared.Density.TheVariants.{Single, Double}
use Rattle.layouts.proofs.Soundness.{sound}
use Rattle.layouts.proofs.layout_of.Goals as goal

pub returns-in-Single : goal.returns-in-Single
unfolding single_density check_word_from
returns-in-Single c = record { layout = rw c.in-Single.is refl; sound = sound Single }

pub returns-in-Double : goal.returns-in-Double
unfolding double_density check_word_from after_byte after_bits after_bit
returns-in-Double c = record { layout = rw c.in-Double.is refl; sound = sound Double }
