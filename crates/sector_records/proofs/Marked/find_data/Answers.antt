-- `sector_records::Marked::find_data` meets its contract. Assumes nothing.
use native.Mathlib.Omega.{arith}
use Rattle.sector_records.proofs.Places.{within-search}
use Rattle.sector_records.proofs.Records.{place-found, place-beyond}
use Rattle.sector_records.proofs.Marked.find_data.Goals as goal

pub returns-then-q-last-clause-place : goal.returns-then-q-last-clause-place
returns-then-q-last-clause-place c =
    let layout = c.args.self.now.layout in
    let e = within-search _ layout.id_length layout.reach c.args.p _ (omega arith) c.find_data_mark-q.ensures in
    place-found _ _ _ _ e.0 c.if-q-last.true

pub returns-else-q-last-clause-place : goal.returns-else-q-last-clause-place
returns-else-q-last-clause-place c =
    let layout = c.args.self.now.layout in
    let e = within-search _ layout.id_length layout.reach c.args.p _ (omega arith) c.find_data_mark-q.ensures in
    place-beyond _ _ _ _ e.0 c.if-q-last.false
