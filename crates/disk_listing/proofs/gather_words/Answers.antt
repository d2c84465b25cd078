-- `disk_listing::gather_words` meets its contract. Assumes nothing but the contracts of the system's calls.
use native.Mathlib.Omega.{arith}
use Rattle.disk_listing.proofs.Gathering.{no-files, gathered}
use Rattle.disk_listing.proofs.gather_words.Goals as goal

pub loop-i-init : goal.loop-i-init
loop-i-init g c = record { gathered = no-files _ _; long = c.told-tracks }

pub returns-then-disk-gt504 : goal.returns-then-disk-gt504
returns-then-disk-gt504 g c =
    gathered _ c.loop-i.invariant.gathered c.loop-i.invariant.long (λ h. absurd (omega (arith, h, c.if-disk-gt504.true)))

pub returns : goal.returns
returns g c = gathered _ c.loop-i.invariant.gathered c.loop-i.invariant.long (λ h. c.loop-i-test.false)
