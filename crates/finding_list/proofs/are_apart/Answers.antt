-- `finding_list::are_apart` meets its contract. Assumes nothing.
use native.Mathlib.Omega.{arith}
use borrow.Author.Tests.{leb-true}
use Rattle.finding_list.proofs.Apart.{apart_more, apart-all}
use Rattle.finding_list.proofs.are_apart.Goals as goal
use lib.ListN.{length}
use mathlib.Core.Path.{◌≡◌}

pub loop-s-preserved : goal.loop-s-preserved
loop-s-preserved c h =
    let l = c.loop-s in
    let clear = c.free_after-free.ensures h in
    apart_more c.args.sectors.now l.s-index l.free c.free_after-free.result (l.invariant (omega (arith, clear.before, c.if-s-free.false))) c.if-s-free.false clear

pub returns : goal.returns
returns c e i h =
    let l = c.loop-s in
    let xs = c.args.sectors.now in
    let b = leb-true l.free c.args.n e in
    let all : l.s-index ≡ length xs = omega arith in
    apart-all c.args.n xs l.free (rw all at (l.invariant (omega (arith, b, c.requires.short)))) b i h
