-- `cell_words::map_of_syncs` meets its contract: each map is made of the one before it. Assumes nothing.
use Prim.Native.Nat.{◌+◌}
use mathlib.Core.Path.{◌≡◌}
use native.Mathlib.Omega.{arith}
use Rattle.cell_words.specs.Tests.{one_at, alone_at, stands_at}
use Rattle.cell_words.specs.PrivateContracts.{seven_from, sync_from}
use Rattle.cell_words.proofs.Words.{holds-less, holds_same}
use Rattle.cell_words.proofs.Tests.{sync-stands}
use Rattle.cell_words.proofs.map_of_syncs.Goals as goal

pub returns : goal.returns
returns c f bit h u n =
    let a = c.args in
    let k = c.min-count.result in
    let e : k ≡ a.m = omega (arith, c.min-count.ensures) in
    let o = one_at f in
    let p = c.alone_map.ensures o (holds-less o _ (a.m + 3) (k + 2 + 1) h (omega arith)) (omega arith) n in
    let v = c.seven_map.ensures o (alone_at o) (holds-less o _ (a.m + 3) (k + 1 + 1) h (omega arith)) (holds-less (alone_at o) _ (k + 2) (k + 1 + 1) p.1 (omega arith)) (omega arith) p.0 in
    let y = c.sync_map.ensures o (seven_from o (alone_at o)) (holds-less o _ (a.m + 3) (k + 1) h (omega arith)) v.1 (omega arith) v.0 in
    (y.0, rw (← e) (holds_same (sync_from o (seven_from o (alone_at o))) (stands_at f 0x4489) (sync-stands f bit) _ k y.1))
