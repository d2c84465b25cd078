-- `sector_image::write_image` meets its contract: after i turns the sectors 1 to i are stored. Assumes nothing.
use Prim.Native.Nat.{ℕ, ◌+◌, ◌<◌}
use mathlib.Core.Path.{◌≡◌, refl, ap}
use native.Mathlib.Omega.{arith}
use lib.ListN.{length, get_or}
use Rattle.std.specs.Prelude.{Option, Some, None, unwrap_or}
use Rattle.cells.specs.CellsAndBytes.{cell}
use Rattle.sector_records.specs.Sectors.{no_sector}
use Rattle.sector_image.specs.Image.{index_of}
use Rattle.sector_image.proofs.Conditions.{index_is}
use Rattle.sector_image.proofs.Parts.{none-stored, one-stored, all-stored}
use Rattle.sector_image.proofs.write_image.Goals.{in-Some, in_default}
use Rattle.sector_image.proofs.write_image.Goals as goal

-- what is found where there is something
found : (found : Option ℕ) (n index : ℕ) → ((x : ℕ) → found ≡ Some x → ⊥) → unwrap_or found n ≡ index → index < n → ⊥
found None n index h e l = omega (arith, e)
found (Some x) n index h e l = h x refl

pub loop-i-init : goal.loop-i-init
loop-i-init c = none-stored (cell c.args.cells.bytes.now c.args.cells.count) c.args.sectors.now c.args.image.now

pub loop-i-preserved : goal.loop-i-preserved
loop-i-preserved c =
    let a = c.args in
    let f = cell a.cells.bytes.now a.cells.count in
    let sectors = a.sectors.now in
    let i = c.loop-i.i in
    let all = c.requires.0 in
    let there = all.there i c.loop-i-test.true in
    let e = index_is sectors (i + 1) (length sectors) refl (unwrap_or c.find.result (length sectors)) c.find.ensures.least in
    elim c.match-find.branch [
      | in-Some w ↦
          let is : w.in-Some.index ≡ index_of sectors (i + 1) = rw w.in-Some.is at e in
          let long = rw (← is) at (all.long i c.loop-i-test.true) in
          rw w.image-is (one-stored f sectors a.image.now i c.loop-i.image _ _ c.loop-i.invariant (ap (λ (x : ℕ). get_or sectors x no_sector) is) long (rw w.data_at.ensures.0 at w.write_sector.ensures))
      | in_default w ↦ absurd (found c.find.result (length sectors) (index_of sectors (i + 1)) w.in_default.not-Some e there)
    ]

pub returns : goal.returns
returns c =
    let l = c.loop-i in
    let e : l.i ≡ 9 = omega arith in
    all-stored (cell c.args.cells.bytes.now c.args.cells.count) c.args.sectors.now c.args.image.now _ c.requires.1 (rw e at l.invariant)
