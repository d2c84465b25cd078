-- `finding_list::survey` meets its contract. Assumes nothing.
use Prim.Native.Nat.{ℕ, ◌+◌, ◌/◌}
use mathlib.Core.Path.{◌≡◌, refl}
use mathlib.Core.List.{List}
use native.Mathlib.Omega.{arith}
use Rattle.std.proofs.Common.{rules, Err}
use Rattle.cells.proofs.Places.{cell-round}
use Rattle.cells.specs.CellsAndBytes.{cell}
use Rattle.cell_words.specs.Words.{Holds}
use Rattle.finding_list.proofs.Outcome.{survey-refused, count-few, sectors-bounded, survey-given}
use Rattle.finding_list.specs.PrivateContracts.{SyncMap}
use Rattle.layouts.specs.Layouts.{layout_of}
use Rattle.layouts.specs.declared.Layout.{Layout}
use Rattle.layouts.proofs.Soundness.{sound}
use Rattle.sector_records.specs.Marks.{word_mark_at}
use Rattle.finding_list.proofs.survey.Goals as goal

-- an answer, the number of sectors and the numbers, as the clauses have them
three : {A B C : Type 0} → A × (B × C) → record { answer : A; sectors : B; numbers : C }
three p = record { answer = p.0; sectors = p.1.0; numbers = p.1.1 }

-- a map written out
written : (layout : Layout) (bytes : List ℕ) (n : ℕ) (syncs : List ℕ) → Holds (word_mark_at (cell bytes n) layout.sync) syncs (n / 64 + 64) → SyncMap layout bytes n syncs
unfolding Holds
written layout bytes n syncs map = map

pub returns-in_err-listed : goal.returns-in_err-listed
returns-in_err-listed c =
    let a = c.args in
    let t = a.track in
    let same : c.from_residual.result ≡ Err c.in_err-listed.field-0.0 = search rules in
    rw same (three (survey-refused (layout_of a.density) (sound a.density) t.cells.bytes.now t.cells.count t.track t.side _ _ c.in_err-listed.ensures.answer a.numbers.now))

pub shared_ref_as_front-sectors : goal.shared_ref_as_front-sectors
shared_ref_as_front-sectors c = let l = c.in_ok-listed in count-few c.args.density c.args.track l.listed l.ensures.answer l.ensures.sectors

pub overflow_cast-track : goal.overflow_cast-track
overflow_cast-track c = let l = c.in_ok-listed in omega (arith, (sectors-bounded c.args.density c.args.track l.listed l.ensures.answer l.ensures.sectors).short)

pub are_apart-requires : goal.are_apart-requires
are_apart-requires c = let l = c.in_ok-listed in sectors-bounded c.args.density c.args.track l.listed l.ensures.answer l.ensures.sectors

pub invariant_of-survey : goal.invariant_of-survey
invariant_of-survey c =
    let a = c.args in
    let cells = a.track.cells in
    let l = c.in_ok-listed in
    let maps = l.ensures.maps l.listed refl in
    let b = sectors-bounded a.density a.track l.listed l.ensures.answer l.ensures.sectors in
    record {
      bounded = b;
      sync_map = written (layout_of a.density) cells.bytes.now cells.count _ maps.syncs_are;
      gaps_found = c.find_gaps.ensures (cell cells.bytes.now cells.count) (cell-round cells.bytes.now cells.count) (omega (arith, b.long)) b.short maps.ones;
      lie_apart = c.are_apart.ensures;
    }

pub returns : goal.returns
returns c =
    let l = c.in_ok-listed in
    three (survey-given c.args.density c.args.track l.listed l.ensures.answer l.ensures.sectors c.args.numbers.now _ _ c.all_kinds.ensures)
