-- `file_listing::list_whole_file` meets its contract: the file is one portion. Assumes nothing.
use Prim.Native.Nat.{ℕ}
use lib.ListN.{length-replicate}
use Rattle.file_listing.proofs.Whole.{told-whole}
use Rattle.file_listing.proofs.list_whole_file.Goals as goal

pub returns : goal.returns
returns c =
    let s = c.start-start.ensures in
    let f = c.feed-reader.ensures in
    let both = told-whole _ _ (length-replicate {A = ℕ} 16384 0) (s.reader, s.buffer) (f.reader, f.buffer) c.list_file.ensures.few c.list_file.ensures.file in
    record { answer = both.0; few = both.1.0; out = both.1.1 }
