-- `disk_listing::gather` meets its contract. Assumes nothing but the contracts of the system's calls.
use Rattle.disk_listing.proofs.gather.Goals as goal

pub returns : goal.returns
returns g c =
    let all = c.gather_words.ensures in record { few = all.few; files = record { words = _; files = all.files } }
