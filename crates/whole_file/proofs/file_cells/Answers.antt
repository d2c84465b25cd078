-- `whole_file::file_cells` meets its contract: the file is one portion. Assumes nothing.
use Prim.Native.Nat.{ℕ}
use mathlib.Core.Path.{◌≡◌, sym, ◌∙◌, ap}
use native.Mathlib.Omega.{arith}
use borrow.Author.Rules.{rules}
use lib.ListN.{length-replicate}
use lib.Seq.{length-take-le}
use Rattle.std.specs.Prelude.{Err}
use Rattle.track_file.specs.Portions.{read_answer}
use Rattle.whole_file.proofs.HandedOver.{refused-file, some_cells, no_room, handed}
use Rattle.whole_file.proofs.file_cells.Goals as goal

pub returns-in_err-read : goal.returns-in_err-read
returns-in_err-read c =
    let s = c.start-start.ensures in
    let f = c.feed-reader.ensures in
    let same : c.from_residual.result ≡ Err c.in_err-read.field-0.0 = search rules in
    let both =
    refused-file _ _ (length-replicate {A = ℕ} 16384 0) (s.reader, s.buffer) (f.reader, f.buffer) _ c.finish.ensures.file c.args.cells.now c.in_err-read.was in
    record { answer = ap read_answer same ∙ both.0; cells = both.1 }

pub overflow_add-needed : goal.overflow_add-needed
overflow_add-needed c =
    let s = c.start-start.ensures in
    let f = c.feed-reader.ensures in
    let some = some_cells _ _ (length-replicate {A = ℕ} 16384 0) (s.reader, s.buffer) (f.reader, f.buffer) _ c.finish.ensures.file c.in_ok-read.was in
    record { fits = omega (arith, some.0) }

pub returns-then-cells-needed : goal.returns-then-cells-needed
returns-then-cells-needed c =
    let s = c.start-start.ensures in
    let f = c.feed-reader.ensures in
    let both =
    no_room _ _ (length-replicate {A = ℕ} 16384 0) (s.reader, s.buffer) (f.reader, f.buffer) _ c.finish.ensures.file c.in_ok-read.was c.args.cells.now
    c.if-cells-needed.true in
    record { answer = both.0; cells = both.1 }

pub slice_bounds-own-end : goal.slice_bounds-own-end
slice_bounds-own-end c =
    let s = c.start-start.ensures in
    let f = c.feed-reader.ensures in
    (some_cells _ _ (length-replicate {A = ℕ} 16384 0) (s.reader, s.buffer) (f.reader, f.buffer) _ c.finish.ensures.file c.in_ok-read.was).1

pub slice_bounds-copy-end : goal.slice_bounds-copy-end
slice_bounds-copy-end c =
    let s = c.start-start.ensures in
    let f = c.feed-reader.ensures in
    sym
    (length-take-le _ _ (some_cells _ _ (length-replicate {A = ℕ} 16384 0) (s.reader, s.buffer) (f.reader, f.buffer) _ c.finish.ensures.file c.in_ok-read.was).1)

pub returns : goal.returns
returns c =
    let s = c.start-start.ensures in
    let f = c.feed-reader.ensures in
    let both =
    handed _ _ (length-replicate {A = ℕ} 16384 0) (s.reader, s.buffer) (f.reader, f.buffer) _ c.finish.ensures.file c.in_ok-read.was c.args.cells.now
    c.if-cells-needed.false c.copy.ensures in
    record { answer = both.0; cells = both.1 }
