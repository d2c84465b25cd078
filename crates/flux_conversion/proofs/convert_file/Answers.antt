-- `flux_conversion::convert_file` meets its contract. Assumes nothing.
use Prim.Native.Nat.{ℕ}
use lib.ListN.{length-replicate}
use Rattle.flux_conversion.proofs.Whole.{one-portion}
use Rattle.flux_conversion.proofs.convert_file.Goals as goal

pub returns : goal.returns
returns c =
    let started = c.start-start.ensures in
    let fed = c.feed-reader.ensures in
    let both = one-portion _ _ _ (length-replicate {A = ℕ} 16384 0) (started.reader, started.buffer) (fed.reader, fed.buffer) c.convert.ensures.file in record { answer = both.0; out = both.1.0; demand3 = both.1.1 }
