-- `Search::in_range` meets its contract: at p the last k cells carried along are the word there, and no place before p has the word looked for.
-- Assumes nothing.
use Prim.Native.Nat.{◌+◌}
use mathlib.Core.Path.{◌≡◌, refl, sym, ap, ◌∙◌}
use native.Mathlib.Nat.{mod-lt}
use native.Mathlib.Omega.{arith}
use Rattle.basis.proofs.Search.{least_step, least-hit, least-end}
use Rattle.cells.specs.CellsAndBytes.{cell_at, cell, word_at}
use Rattle.cells.proofs.Places.{cell_at-lt, cell-lt, cell-is, next-is}
use Rattle.cells.proofs.Words.{carried-start, carried_on, mask_is}
use Rattle.cells.proofs.Eight.{eight-carried, eight-place, eight-passed}
use Rattle.cells.proofs.Standing.{word-is, stands_here, stands-not}
use borrow.Author.Rules.{rules}
use Rattle.cells.proofs.Search.in_range.Goals as goal

pub loop-p-init : goal.loop-p-init
loop-p-init c =
    let s = c in
    let a = c.args in
    record {
      after = search rules;
      before = search rules;
      carried = carried-start (cell a.self.cells.bytes.now a.self.cells.count) (cell-lt a.self.cells.bytes.now a.self.cells.count) a.self.k a.self.few a.from _ c.last_cells-so_far.ensures;
      place = c.place_after-at.ensures;
      inside = rw c.place_after-at.ensures (mod-lt _ a.self.some);
      same = refl;
    }

pub loop-p-preserved-then-skips_eight : goal.loop-p-preserved-then-skips_eight
loop-p-preserved-then-skips_eight c =
    let l = c in
    let s = c in
    let a = c.args in
    let inv = c.loop-p.invariant in
    let k = c.skips_eight.ensures c.if-skips_eight.true in
    let y = c.byte_at.ensures in
    let some = a.self.some in
    record {
      after = search rules;
      before = omega (arith, k.enough);
      carried = rw c.append_byte-so_far.ensures (eight-carried a.self.cells.bytes.now a.self.cells.count a.self.x a.self.k c.loop-p.p a.to c.loop-p.so_far c.loop-p.at _ some inv.carried inv.place y.0 y.1 k);
      place = c.next_byte-at.ensures ∙ eight-place a.self.cells.bytes.now a.self.cells.count a.self.x a.self.k c.loop-p.p a.to c.loop-p.so_far c.loop-p.at _ some inv.carried inv.place y.0 y.1 k;
      inside = rw c.next_byte-at.ensures (mod-lt _ some);
      same = sym (eight-passed a.self.cells.bytes.now a.self.cells.count a.self.x a.self.k c.loop-p.p a.to c.loop-p.so_far c.loop-p.at _ some inv.carried inv.place y.0 y.1 k) ∙ inv.same;
    }

pub returns-then-so_far-mask : goal.returns-then-so_far-mask
returns-then-so_far-mask c =
    let l = c in
    let s = c in
    let a = c.args in
    let inv = c.loop-p.invariant in
    let e = word-is a.self.cells.bytes.now a.self.cells.count a.self.k a.self.x c.loop-p.p a.self.few ∙ sym inv.carried ∙ sym (mask_is c.loop-p.so_far a.self.k a.self.few) ∙ c.if-so_far-mask.true in
    sym (least-hit _ _ _ c.loop-p-test.true (stands_here a.self.cells.bytes.now a.self.cells.count a.self.k a.self.x c.loop-p.p e)) ∙ inv.same

pub append-so_far-requires : goal.append-so_far-requires
append-so_far-requires c = rw c.cell_at.ensures (cell_at-lt _ _)

pub loop-p-preserved : goal.loop-p-preserved
loop-p-preserved c =
    let l = c in
    let s = c in
    let a = c.args in
    let inv = c.loop-p.invariant in
    let f = cell a.self.cells.bytes.now a.self.cells.count in
    let b = c.cell_at.ensures ∙ ap (cell_at a.self.cells.bytes.now) inv.place ∙ sym (cell-is a.self.cells.bytes.now a.self.cells.count (c.loop-p.p + a.self.k) a.self.some) in
    let g : c.loop-p.p + 1 + a.self.k ≡ c.loop-p.p + (a.self.k + 1) = omega arith in
    let e : word_at a.self.cells.bytes.now a.self.cells.count c.loop-p.p a.self.k ≡ a.self.x → ⊥ = λ q. c.if-so_far-mask.false (mask_is c.loop-p.so_far a.self.k a.self.few ∙ inv.carried ∙ sym (word-is a.self.cells.bytes.now a.self.cells.count a.self.k a.self.x c.loop-p.p a.self.few) ∙ q) in
    record {
      after = search rules;
      before = search rules;
      carried = rw c.append-so_far.ensures (carried_on f (cell-lt a.self.cells.bytes.now a.self.cells.count) a.self.k a.self.few c.loop-p.p c.loop-p.so_far _ inv.carried b);
      place = rw g (c.next_place-at.ensures ∙ next-is _ _ _ _ inv.place);
      inside = rw c.next_place-at.ensures (mod-lt _ a.self.some);
      same = sym (least_step _ _ _ c.loop-p-test.true (stands-not a.self.cells.bytes.now a.self.cells.count a.self.k a.self.x c.loop-p.p e)) ∙ inv.same;
    }

pub returns : goal.returns
returns c =
    let l = c in
    let inv = c.loop-p.invariant in
    let e : c.args.to ≡ c.loop-p.p = omega (arith, inv.before) in
    e ∙ sym (least-end _ _ _ c.loop-p-test.false) ∙ inv.same
