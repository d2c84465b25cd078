-- `sector_records::Marked::check_good` meets its contract. Assumes nothing.
use Rattle.sector_records.proofs.Checks.{good-is}
use Rattle.sector_records.proofs.Marked.check_good.Goals as goal

pub returns : goal.returns
returns c = good-is _ _ _ _ _ _ c.check_word.ensures c.check_bytes.ensures
