-- `disk_lines::entry_line` meets its contract: its two parts one after the other. Assumes nothing.
use Prim.Native.Nat.{ℕ, ◌+◌}
use mathlib.Core.Path.{ap}
use native.Mathlib.Omega.{arith}
use Rattle.lines.proofs.Writing.{◌then◌, wrote-few}
use Rattle.disk_lines.specs.EntryLines.{entry_line}
use Rattle.disk_lines.proofs.Lengths.{finding-few}
use Rattle.disk_lines.proofs.Writing.{part-wrote}
use Rattle.disk_lines.proofs.entry_line.Goals as goal

pub overflow_add-result : goal.overflow_add-result
overflow_add-result c =
    let w = c.write_start-next.ensures in
    omega (
      arith,
      c.finding_line-length.ensures.answer,
      w.place,
      w.few,
      finding-few c.args.kind c.args.level c.args.place c.args.detail c.ranges.kind.fits c.ranges.level.fits c.ranges.place.fits c.ranges.detail.fits,
    )

pub returns : goal.returns
unfolding entry_line
returns c =
    let few = finding-few c.args.kind c.args.level c.args.place c.args.detail c.ranges.kind.fits c.ranges.level.fits c.ranges.place.fits c.ranges.detail.fits in
    let line = part-wrote _ _ _ _ c.min-from.ensures c.finding_line-length.ensures.out few (ap (λ (n : ℕ). c.write_start-next.result + n) c.finding_line-length.ensures.answer) in
    wrote-few {n = 80} (omega arith) (c.write_start-next.ensures then line)
