-- The track and its findings, where it is accepted. Assumes nothing.
use Rattle.std.proofs.Common.{ℕ, sym, arith}
use Rattle.std.specs.Prelude.{replicate}
use lib.ListN.{length-replicate}
use lib.Seq.{length-take-le}
use Rattle.disk_files.proofs.Added.{accepted, few, adds-track}
use Rattle.disk_files.proofs.add_track.Goals as goal

pub overflow_cast-count : goal.overflow_cast-count
overflow_cast-count c = let t = c.args.track in record { fits = omega (arith, few t.cells.bytes.now t.cells.count t.track t.side c.findings_as_numbers.ensures.answer c.in_ok-found.was) }

pub overflow_mul-numbers : goal.overflow_mul-numbers
overflow_mul-numbers c = let t = c.args.track in record { fits = omega (arith, few t.cells.bytes.now t.cells.count t.track t.side c.findings_as_numbers.ensures.answer c.in_ok-found.was) }

pub slice_bounds-numbers-end : goal.slice_bounds-numbers-end
slice_bounds-numbers-end c = let t = c.args.track in omega (arith, few t.cells.bytes.now t.cells.count t.track t.side c.findings_as_numbers.ensures.answer c.in_ok-found.was, c.findings_as_numbers.auto.list, length-replicate {A = ℕ} 3604 0)

pub slice_bounds-put-end-2 : goal.slice_bounds-put-end-2
slice_bounds-put-end-2 c = let t = c.args.track in sym (length-take-le _ _ (omega (arith, few t.cells.bytes.now t.cells.count t.track t.side c.findings_as_numbers.ensures.answer c.in_ok-found.was, c.findings_as_numbers.auto.list, length-replicate {A = ℕ} 3604 0)))

pub returns : goal.returns
returns c =
    let t = c.args.track in
    let e = accepted t.cells.bytes.now t.cells.count t.track t.side c.findings_as_numbers.ensures.answer c.in_ok-found.was in
    let both = adds-track c.args.tracks.now _ c.args.at c.args.findings.now _ c.args.from t.cells.bytes.now t.cells.count t.track t.side e (replicate 3604 0) _ (length-replicate {A = ℕ} 3604 0) c.findings_as_numbers.ensures.list c.put.ensures c.put-2.ensures in
    record { answer = both.0; tracks = both.1.0; findings = both.1.1 }
