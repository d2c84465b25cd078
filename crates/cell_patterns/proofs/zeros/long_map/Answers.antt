-- `cell_patterns::zeros::long_map` meets its contract. Assumes nothing.
use Prim.Native.Nat.{◌+◌, ◌/◌}
use mathlib.Core.Bool.{false}
use native.Mathlib.Omega.{arith}
use Rattle.cell_words.specs.Tests.{one_at, like_at, both_at}
use Rattle.cell_words.proofs.Words.{holds-less, holds_same}
use Rattle.cell_patterns.proofs.LongRuns.{long_at, long-level}
use borrow.Author.Rules.{rules}
use Rattle.cell_patterns.proofs.zeros.long_map.Goals as goal

pub returns : goal.returns
returns c f h held long =
    let a = c.args in
    let o = one_at f in
    let t1 = like_at false o in
    let m1 = c.like_map.ensures o held (search rules) long in
    let m2 = c.both_map.ensures t1 (holds-less t1 _ (a.n / 64 + 68) (a.n / 64 + 67 + 1) m1.1 (omega arith)) (search rules) (search rules) (search rules) m1.0 in
    let t2 = both_at 1 t1 in
    let m4 = c.both_map-2.ensures t2 (holds-less t2 _ (a.n / 64 + 67) (a.n / 64 + 66 + 1) m2.1 (omega arith)) (search rules) (search rules) (search rules) m2.0 in
    let t4 = both_at 2 t2 in
    let m8 = c.both_map-3.ensures t4 (holds-less t4 _ (a.n / 64 + 66) (a.n / 64 + 65 + 1) m4.1 (omega arith)) (search rules) (search rules) (search rules) m4.0 in
    let t8 = both_at 4 t4 in
    let m16 = c.both_map-4.ensures t8 (holds-less t8 _ (a.n / 64 + 65) (a.n / 64 + 64 + 1) m8.1 (omega arith)) (search rules) (search rules) (search rules) m8.0 in
    let t16 = both_at 8 t8 in
    let m32 = c.both_map-5.ensures t16 (holds-less t16 _ (a.n / 64 + 64) (a.n / 64 + 63 + 1) m16.1 (omega arith)) (search rules) (search rules) (search rules) m16.0 in
    let t32 = both_at 16 t16 in
    let m64 = c.both_map-6.ensures t32 (holds-less t32 _ (a.n / 64 + 63) (a.n / 64 + 62 + 1) m32.1 (omega arith)) (search rules) (search rules) (search rules) m32.0 in
    holds_same (both_at 32 t32) (long_at f a.n) (long-level f a.n h) _ _ m64.1
