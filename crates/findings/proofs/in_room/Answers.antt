-- `findings::in_room` meets its contract: the room is judged after the survey. Assumes nothing.
use mathlib.Core.Path.{◌≡◌}
use borrow.Author.Rules.{rules}
use Rattle.std.specs.Prelude.{Err}
use Rattle.findings.proofs.Outcome.{refused-before, too-short, fits}
use Rattle.layouts.specs.Layouts.{layout_of}
use Rattle.layouts.proofs.Soundness.{sound}
use Rattle.findings.proofs.in_room.Goals as goal

-- an answer, the number of sectors and the numbers, as the clauses have them
three : {A B C : Type 0} → A × (B × C) → record { answer : A; sectors : B; numbers : C }
three p = record { answer = p.0; sectors = p.1.0; numbers = p.1.1 }

pub returns-in_err-listed : goal.returns-in_err-listed
returns-in_err-listed c =
    let a = c.args in
    let t = a.track in
    let same : c.from_residual.result ≡ Err c.in_err-listed.field-0.0 = search rules in
    rw same (three (refused-before (layout_of a.density) (sound a.density) t.cells.bytes.now t.cells.count t.track t.side a.room _ _ c.in_err-listed.ensures.answer _))

pub returns-then-room-listed : goal.returns-then-room-listed
returns-then-room-listed c =
    let a = c.args in
    let t = a.track in
    three (too-short (layout_of a.density) (sound a.density) t.cells.bytes.now t.cells.count t.track t.side a.room _ c.in_ok-listed.ensures.answer c.if-room-listed.true _)

pub returns : goal.returns
returns c =
    let a = c.args in
    let t = a.track in
    let l = c.in_ok-listed.ensures in
    three (fits (layout_of a.density) (sound a.density) t.cells.bytes.now t.cells.count t.track t.side a.room _ l.answer c.if-room-listed.false _ l.sectors a.numbers.now _ l.numbers)
