-- `listing::list_track` meets its contract. Assumes nothing.
use Prim.Native.Nat.{ℕ}
use mathlib.Core.Path.{sym}
use native.Mathlib.Omega.{arith}
use lib.ListN.{replicate, length-replicate}
use Rattle.listing.proofs.Track.{few_cells, few_findings, few-sectors, few-header, refusal-written, listing-written}
use Rattle.listing.proofs.list_track.Goals as goal

-- the number of bytes, that it is short enough, and the buffer, as the clauses have them
three : {A B C : Type 0} → A × (B × C) → record { answer : A; few : B; out : C }
three p = record { answer = p.0; few = p.1.0; out = p.1.1 }

pub overflow_cast-cells : goal.overflow_cast-cells
overflow_cast-cells c =
    let t = c.args.track in
    record { fits = omega (arith, few_cells t.cells.bytes.now t.cells.count t.track t.side _ (sym c.in-Ok.ensures.answer)) }

pub overflow_cast-sectors : goal.overflow_cast-sectors
overflow_cast-sectors c =
    let t = c.args.track in
    record { fits = omega (arith, few-sectors t.cells.bytes.now t.cells.count t.track t.side _ (sym c.in-Ok.ensures.answer) _ c.in-Ok.ensures.sectors) }

pub overflow_cast-count : goal.overflow_cast-count
overflow_cast-count c =
    let t = c.args.track in
    record { fits = omega (arith, few_findings t.cells.bytes.now t.cells.count t.track t.side _ (sym c.in-Ok.ensures.answer)) }

pub write_lines-requires : goal.write_lines-requires
write_lines-requires c =
    let t = c.args.track in
    let e = sym c.in-Ok.ensures.answer in (
      omega (arith, c.header-at.ensures.answer, few-header t.cells.bytes.now t.cells.count t.track t.side _ e _ c.in-Ok.ensures.sectors),
      few_findings t.cells.bytes.now t.cells.count t.track t.side _ e,
    )

pub returns-in-Err : goal.returns-in-Err
returns-in-Err c =
    let t = c.args.track in
    three (refusal-written t.cells.bytes.now t.cells.count t.track t.side c.args.out.now _ _ (sym c.in-Err.ensures.answer) c.number.ensures c.number.type_inv (c.refused_line.ensures.answer, c.refused_line.ensures.out))

pub returns-in-Ok : goal.returns-in-Ok
returns-in-Ok c =
    let t = c.args.track in
    let f = c.in-Ok.ensures in
    three (listing-written t.cells.bytes.now t.cells.count t.track t.side _ (sym f.answer) _ f.sectors c.args.out.now (replicate 3604 0) _ (length-replicate {A = ℕ} 3604 0) f.list
    (c.header-at.ensures.answer, c.header-at.ensures.out) c.write_lines.ensures)
