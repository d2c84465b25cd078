-- `sectors::Track::read_out` meets its contract. Assumes nothing.
use mathlib.Core.Path.{◌≡◌, sym, ap}
use borrow.Author.Rules.{rules}
use lib.ListN.{length}
use Rattle.std.specs.Prelude.{Err}
use Rattle.cells.specs.CellsAndBytes.{cell}
use Rattle.layouts.specs.Layouts.{layout_of}
use Rattle.refusals.specs.RefusedCalls.{Answer, buffer_after}
use Rattle.sector_records.specs.Sectors.{data_bytes}
use Rattle.sectors.specs.Calls.{DataRead, sector_of}
use Rattle.sectors.proofs.Calls.{read-follows, read-given}
use Rattle.sectors.proofs.Track.read_out.Goals as goal

pub returns-in_err-found-clause-answer : goal.returns-in_err-found-clause-answer
returns-in_err-found-clause-answer c =
    let same : c.from_residual.result ≡ Err c.in_err-found.field-0.0 = search rules in
    rw same (sym ((read-follows _ _ _ _ _ _ (length c.args.buffer.now)).refusals _ _ (sym c.in_err-found.ensures.answer)))

pub returns-in_err-found-clause-buffer : goal.returns-in_err-found-clause-buffer
unfolding buffer_after
returns-in_err-found-clause-buffer c =
    let a = c.args in
    let layout = layout_of a.density in
    let bytes = a.self.cells.bytes.now in
    let n = a.self.cells.count in
    let e = sym ((read-follows _ _ _ _ _ _ (length a.buffer.now)).refusals _ _ (sym c.in_err-found.ensures.answer)) in
    ap (λ (x : Answer DataRead). buffer_after x (data_bytes layout.mark_length (cell bytes n) (sector_of layout bytes n a.index)) a.buffer.now) e

pub returns : goal.returns
returns c =
    let a = c.args in
    let s = a.self in
    let p = read-given (layout_of a.density) s.cells.bytes.now s.cells.count s.track s.side a.index _ a.buffer.now _ _ _ c.in_ok-found.ensures.answer c.in_ok-found.ensures.sector c.read_sector.ensures.answer c.read_sector.ensures.buffer in
    record { answer = p.0; buffer = p.1 }
