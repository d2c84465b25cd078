-- `file_listing::list_file` meets its contract. Assumes nothing.
use Rattle.file_listing.proofs.Whole.{told-file}
use Rattle.file_listing.proofs.list_file.Goals as goal

pub returns : goal.returns
returns c =
    let finish = c.finish-read.ensures in
    let l = c.list_read.ensures in let both = told-file _ _ _ _ _ _ finish.file (l.answer, (l.few, l.out)) _ finish.answer in record { answer = both.0; few = both.1.0; out = both.1.1.0; file = both.1.1.1 }
