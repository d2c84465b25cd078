-- `Search::stands_in` meets its contract. At j, none of the places before passes. Assumes nothing.
use Prim.Native.Nat.{◌-◌, ◌/◌, ◌%◌, ◌^◌, ◌≤◌}
use mathlib.Core.Path.{◌≡◌, ◌∙◌}
use native.Mathlib.Decide.{dec_le}
use native.Mathlib.Nat.{lt_of_not-le}
use native.Mathlib.Omega.{arith}
use Rattle.cells.proofs.Words.{mask_is}
use Rattle.cells.proofs.Search.stands_in.Goals as goal

pub loop-j-preserved : goal.loop-j-preserved
loop-j-preserved c i l = go (dec_le c.loop-j.j i)
  where
    go : Dec (c.loop-j.j ≤ i) → c.args.so_far / 2 ^ (8 - i) % 2 ^ c.args.self.k ≡ c.args.self.x → ⊥
    go (yes le) q =
        let e : i ≡ c.loop-j.j = omega arith in
        c.if-so_far-j.false (mask_is (c.args.so_far / 2 ^ (8 - c.loop-j.j)) c.args.self.k c.args.self.few ∙ rw (← e) q)
    go (no lt) q = c.loop-j.invariant i (lt_of_not-le lt) q
