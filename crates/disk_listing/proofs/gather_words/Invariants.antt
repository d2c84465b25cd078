-- `disk_listing::gather_words` meets its contract: the files before argument i are gathered. Assumes nothing but the contracts of the system's calls.
use mathlib.Core.Path.{◌≡◌}
use lib.ListN.{length}
use Rattle.disk_listing.specs.PrivateContracts.{Gathered}
use Rattle.disk_listing.proofs.gather_words.Given as goal

abbrev pub invariant-loop-i : goal.invariant-loop-i
invariant-loop-i g l = record { gathered : Gathered l.disk l.tracks l.findings l.i; long : length l.tracks ≡ 507 }
