-- `track_input::read_all` meets its contract: the reads so far led to the reader and the cells. Assumes nothing but the contract of a
-- reader's `read`.
use native.Mathlib.Omega.{arith}
use Rattle.track_input.proofs.Reading.{no_reads, one-read, read-to-end, failed-read, no-turns}
use Rattle.track_input.proofs.read_all.Goals as goal

pub loop-init : goal.loop-init
loop-init g c = no_reads _ _ _

pub returns-in-Ended : goal.returns-in-Ended
returns-in-Ended g c = read-to-end c.loop.invariant c.read_portion-input.ensures c.in-Ended.is

pub returns-in-Failed : goal.returns-in-Failed
returns-in-Failed g c = failed-read c.loop.invariant c.read_portion-input.ensures c.in-Failed.is

pub loop-preserved : goal.loop-preserved
loop-preserved g c = one-read c.loop.invariant c.read_portion-input.ensures c.in-Open.is

pub returns : goal.returns
returns g c = no-turns c.loop.invariant (omega arith)
