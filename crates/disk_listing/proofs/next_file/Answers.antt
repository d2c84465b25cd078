-- `disk_listing::next_file` meets its contract. Assumes nothing but the contracts of the system's calls.
use Rattle.disk_listing.proofs.Gathering.{small-after, one-file-more}
use Rattle.disk_listing.proofs.next_file.Goals as goal

pub with_file-requires : goal.with_file-requires
with_file-requires g c = small-after c.requires.gathered c.take_file-file.ensures c.requires.room c.requires.more

pub returns : goal.returns
returns g c = one-file-more c.requires.gathered c.take_file-file.ensures c.requires.room c.told-tracks c.told-findings c.with_file.ensures
