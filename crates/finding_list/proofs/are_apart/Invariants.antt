-- `finding_list::are_apart` meets its contract. Assumes nothing.
use Prim.Native.Nat.{◌≤◌}
use Rattle.finding_list.proofs.Apart.{ApartBefore}
use Rattle.finding_list.proofs.are_apart.Given as goal

abbrev pub invariant-loop-s : goal.invariant-loop-s
invariant-loop-s l = l.free ≤ 200000 → ApartBefore l.sectors l.s-index l.free
