-- `track_file::feed` meets its contract: after each turn what is left of the portion leads to the same end. Assumes nothing.
use Rattle.track_file.proofs.Portions.{byte-fed, more-fed, all-fed}
use Rattle.track_file.proofs.feed.Goals as goal

pub loop-byte-preserved : goal.loop-byte-preserved
loop-byte-preserved c =
    let b = c.feed_byte-at.ensures in
    let p = c.feed_packed-fed.ensures in
    more-fed (byte-fed c.loop-byte.invariant c.in-Some.ensures.cases.0 b.reader b.buffer) p.reader p.buffer

pub returns : goal.returns
returns c = let both = all-fed c.loop-byte.invariant c.in_default.ensures.cases in record { reader = both.0; buffer = both.1 }
