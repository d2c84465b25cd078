-- `sector_image::sector_image` meets its contract. Assumes nothing.
use Prim.Native.Nat.{ℕ}
use mathlib.Core.Path.{◌≡◌, sym, ap}
use mathlib.Core.List.{List}
use borrow.Author.Rules.{rules}
use lib.ListN.{length, take}
use Rattle.std.specs.Prelude.{Err}
use Rattle.cells.specs.CellsAndBytes.{cell}
use Rattle.layouts.specs.Layouts.{double_density}
use Rattle.refusals.specs.RefusedCalls.{Answer, buffer_after}
use Rattle.refusals.specs.RefusedCalls.Answer.{gives}
use Rattle.sector_records.specs.Sectors.{sectors_of}
use Rattle.sector_records.specs.declared.Sectors.{Sectors}
use Rattle.sectors.specs.Calls.{sectors_answer, sectors_beside}
use Rattle.sectors.proofs.Calls.{list-accepted, listed-sectors}
use Rattle.sector_image.specs.Image.{image_of}
use Rattle.sector_image.proofs.Calls.{of-track, image-follows, image-given}
use Rattle.sector_image.proofs.Kept.{sectors-kept}
use Rattle.sector_image.proofs.sector_image.Goals as goal

-- the sectors of a track that was accepted, out of the struct
are : (bytes : List ℕ) (n track side : ℕ) (ss : Sectors) → gives ss.count ≡ sectors_answer double_density bytes n track side
    → ss ≡ sectors_beside (sectors_answer double_density bytes n track side) (sectors_of double_density bytes n) → take ss.count ss.all ≡ sectors_of double_density bytes n
are bytes n track side ss g e =
    let l = list-accepted double_density bytes n track side ss.count (sym g) in
    sectors-kept (sectors_of double_density bytes n) ss (listed-sectors double_density bytes n track side ss.count g ss e) (rw (← l.0) l.1)

pub returns-in_err-found-clause-answer : goal.returns-in_err-found-clause-answer
returns-in_err-found-clause-answer c =
    let same : c.from_residual.result ≡ Err c.in_err-found.field-0.0 = search rules in
    rw same (sym ((image-follows _ _ _ _ (length c.args.image.now)).refusals _ _ (sym c.in_err-found.ensures.answer)))

pub returns-in_err-found-clause-image : goal.returns-in_err-found-clause-image
unfolding buffer_after
returns-in_err-found-clause-image c =
    let a = c.args in
    let f = cell a.track.cells.bytes.now a.track.cells.count in
    let e = sym ((image-follows _ _ _ _ (length a.image.now)).refusals _ _ (sym c.in_err-found.ensures.answer)) in
    ap (λ (x : Answer ℕ). buffer_after x (image_of f (sectors_of double_density a.track.cells.bytes.now a.track.cells.count)) a.image.now) e

pub put_image-requires : goal.put_image-requires
put_image-requires c =
    let t = c.args.track in
    rw (are _ _ _ _ _ c.in_ok-found.ensures.answer c.in_ok-found.ensures.sectors) (of-track t.cells.bytes.now t.cells.count)

pub returns : goal.returns
returns c =
    let t = c.args.track in
    let g = c.in_ok-found.ensures in
    let p = image-given t.cells.bytes.now t.cells.count t.track t.side _ g.answer _ (are _ _ _ _ _ g.answer g.sectors) c.args.image.now _ _ c.put_image.ensures.answer c.put_image.ensures.image in
    record { answer = p.0; image = p.1 }
