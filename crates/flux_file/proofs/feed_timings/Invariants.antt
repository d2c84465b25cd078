-- `flux_file::feed_timings` meets its contract: after each turn what is left of the portion leads to the same end. Assumes nothing.
use Prim.Native.Nat.{◌-◌, ◌*◌}
use lib.ListN.{drop}
use Rattle.file_reader.specs.declared.Number.TheVariants.{Empty}
use Rattle.flux_reader.specs.declared.FluxReader.TheVariants.{Timings}
use Rattle.flux_file.proofs.Portions.{Fed}
use Rattle.flux_file.proofs.feed_timings.Given as goal

abbrev pub invariant-loop-timing : goal.invariant-loop-timing
invariant-loop-timing l =
    Fed l.portion l.initial.cells (Timings l.place l.left Empty l.initial.taken) (drop (4 * l.timing-index) l.portion) l.cells (Timings l.place (l.left - l.timing-index) Empty l.taken)
