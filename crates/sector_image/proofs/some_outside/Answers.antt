-- `sector_image::some_outside` meets its contract: what is left of the search finds what all of it does. Assumes nothing.
use Prim.Native.Nat.{ℕ, ◌-◌, ◌<◌, ◌≤◌}
use mathlib.Core.Bool.{true, false}
use mathlib.Core.List.{List}
use mathlib.Core.Path.{◌≡◌, sym, ◌∙◌}
use native.Mathlib.Omega.{arith}
use borrow.Author.Tests.{lt-ltb, le-ltb}
use lib.ListN.{length}
use Rattle.basis.specs.Search.{least}
use Rattle.basis.proofs.Search.{least_step, least-hit, least-end}
use Rattle.sector_image.specs.Image.{outside, some_outside}
use Rattle.sector_records.specs.declared.Sector.{Sector}
use Rattle.sector_image.proofs.some_outside.Goals as goal

module _ (sectors : List Sector) (i : ℕ) (left : least (outside sectors) (length sectors - i) i ≡ least (outside sectors) (length sectors) 0) where
  found : i < length sectors → outside sectors i ≡ true → true ≡ some_outside sectors
  unfolding some_outside
  found h o = rw (← left, least-hit (outside sectors) i (length sectors) h o, lt-ltb i (length sectors) h)

  none : length sectors ≤ i → false ≡ some_outside sectors
  unfolding some_outside
  none h = rw (← left, least-end (outside sectors) i (length sectors) h, le-ltb i (length sectors) h)

pub returns-then-sector : goal.returns-then-sector
returns-then-sector c = found c.args.sectors.now c.loop-sector.sector-index c.loop-sector.invariant (omega arith) c.if-sector.true

pub loop-sector-preserved : goal.loop-sector-preserved
loop-sector-preserved c =
    sym (least_step (outside c.args.sectors.now) c.loop-sector.sector-index (length c.args.sectors.now) (omega arith) c.if-sector.false) ∙ c.loop-sector.invariant

pub returns : goal.returns
returns c = none c.args.sectors.now c.loop-sector.sector-index c.loop-sector.invariant (omega arith)
