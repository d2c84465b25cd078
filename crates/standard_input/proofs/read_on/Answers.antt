-- `standard_input::read_on` meets its contract. Assumes nothing but the contract of a reader's `read`.
use Prim.Native.Nat.{◌-◌}
use native.Mathlib.Omega.{arith}
use Rattle.standard_input.proofs.Reading.{at_first, as_long, in_block, next-byte, no_more, full}
use Rattle.standard_input.proofs.read_on.Goals as goal

pub loop-count-init : goal.loop-count-init
loop-count-init g c = at_first _ _ c.min-count.ensures

pub shape_of-room-then-more-eq0 : goal.shape_of-room-then-more-eq0
shape_of-room-then-more-eq0 g c =
    let read = c.read_once-more in
    as_long c.loop-count.invariant read.new.room read.auto.room

pub returns-then-more-eq0 : goal.returns-then-more-eq0
returns-then-more-eq0 g c =
    let read = c.read_once-more in
    no_more c.loop-count.invariant read.new.room read.auto.room read.ensures c.if-more-eq0.true c.loop-count-test.true

pub overflow_add-count : goal.overflow_add-count
overflow_add-count g c =
    let l = c.loop-count in
    let read = c.read_once-more in
    record { fits = omega (arith, in_block l.invariant read.new.room read.auto.room read.ensures, l.invariant.long, c.well_formed) }

pub loop-count-smaller : goal.loop-count-smaller
loop-count-smaller g c =
    let l = c.loop-count in
    let read = c.read_once-more in
    omega (arith, c.if-more-eq0.false, in_block l.invariant read.new.room read.auto.room read.ensures, l.invariant.long)

pub loop-count-preserved : goal.loop-count-preserved
loop-count-preserved g c =
    let l = c.loop-count in
    let read = c.read_once-more in
    next-byte l.invariant read.new.room read.auto.room read.ensures (omega (arith, c.if-more-eq0.false))

pub shape_of-room : goal.shape_of-room
shape_of-room g c = c.loop-count.invariant.long

pub returns : goal.returns
returns g c = full c.loop-count.invariant c.loop-count-test.false
