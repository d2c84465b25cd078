-- `two_reads::is_good` meets its contract: the check word is carried on from the syncs and the mark to the data bytes. Assumes nothing.
use Rattle.crc.specs.CheckWord.{check_word_from}
use Rattle.two_reads.specs.GoodRead.{check_is_good}
use Rattle.two_reads.proofs.is_good.Goals as goal

pub returns : goal.returns
unfolding check_word_from check_is_good
returns c = rw (c.check_word_from.ensures, c.from_be_bytes.ensures, c.check_word-before.ensures)
