-- `thikbromu::blocks::thikbromu_revolution_portion` meets its contract. Assumes nothing.
use Rattle.reader_as_number.proofs.ByNumbers.{all-by-number}
use Rattle.thikbromu.proofs.blocks.thikbromu_revolution_portion.Goals as goal

pub returns-clause-all : goal.returns-clause-all
returns-clause-all c =
    let t = c.take-answer.ensures in
    all-by-number _ _ _ _ (rw (t.answer, c.reader_of_number-reader.ensures) at t.all)
