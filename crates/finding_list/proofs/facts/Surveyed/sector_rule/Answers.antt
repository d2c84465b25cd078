-- `finding_list::facts::Surveyed::sector_rule` meets its contract. Assumes nothing.
use Prim.Native.Nat.{ℕ, ◌+◌, ◌/◌, ◌≤◌}
use mathlib.Core.Path.{◌≡◌, sym, ap, ◌∙◌}
use mathlib.Core.List.{List}
use native.Mathlib.Omega.{arith}
use Rattle.cells.specs.CellsAndBytes.{cell}
use Rattle.cells.proofs.Places.{cell-round}
use Rattle.cell_words.specs.Words.{Holds}
use Rattle.finding_rules.specs.Rules.{no_row, id_rows}
use lib.ListN.{get_or}
use Rattle.finding_rules.proofs.Rows.{row-id, row-data, row-sws, row-sid}
use Rattle.finding_list.specs.PrivateContracts.{SyncMap}
use Rattle.layouts.specs.Layouts.{layout_of}
use Rattle.layouts.specs.declared.Layout.{Layout}
use Rattle.sector_records.specs.Marks.{word_mark_at}
use Rattle.finding_list.proofs.facts.Surveyed.sector_rule.Goals as goal

held : (layout : Layout) (bytes : List ℕ) (n : ℕ) (syncs : List ℕ) → SyncMap layout bytes n syncs → Holds (word_mark_at (cell bytes n) layout.sync) syncs (n / 64 + 64)
unfolding Holds
held layout bytes n syncs map = map

pub returns-then-k-lt-DATA_RULES : goal.returns-then-k-lt-DATA_RULES
returns-then-k-lt-DATA_RULES c =
    let a = c.args in
    let t = a.self.now.track in
    c.id_rule.ensures
    ∙ ap (λ (layout : Layout). get_or (id_rows layout t.track a.s) a.k no_row) c.layout_of.ensures.layout
    ∙ sym (row-id (layout_of a.self.now.density) (cell t.cells.bytes.now t.cells.count) t.cells.count t.track a.self.now.sectors.now a.s a.k c.if-k-lt-DATA_RULES.true)

pub returns-then-k-lt-OVERWRITTEN : goal.returns-then-k-lt-OVERWRITTEN
returns-then-k-lt-OVERWRITTEN c =
    let a = c.args in
    let t = a.self.now.track in
    c.data_rule.ensures
    ∙ sym (row-data (layout_of a.self.now.density) (cell t.cells.bytes.now t.cells.count) t.cells.count t.track a.self.now.sectors.now a.s a.k c.if-k-lt-DATA_RULES.false c.if-k-lt-OVERWRITTEN.true)

pub returns-then-k-eq-OVERWRITTEN : goal.returns-then-k-eq-OVERWRITTEN
returns-then-k-eq-OVERWRITTEN c =
    let a = c.args in
    let t = a.self.now.track in
    rw c.is_overwritten.ensures (sym (row-sws (layout_of a.self.now.density) (cell t.cells.bytes.now t.cells.count) t.cells.count t.track a.self.now.sectors.now a.s a.k c.if-k-eq-OVERWRITTEN.true))

pub returns : goal.returns
returns c =
    let a = c.args in
    let t = a.self.now.track in
    let f = cell t.cells.bytes.now t.cells.count in
    let low : 11 ≤ a.k = c.if-k-lt-OVERWRITTEN.false in
    let is : a.k ≡ 12 = omega (arith, c.requires.0, c.if-k-eq-OVERWRITTEN.false) in
    let own = a.self.now in
    rw (c.syncs_inside-inside.ensures f (cell-round t.cells.bytes.now t.cells.count) own.bounded.short (held (layout_of a.self.now.density) t.cells.bytes.now t.cells.count a.self.now.syncs.now own.sync_map) c.requires.1.id_inside c.requires.1.data_inside)
    (sym (row-sid (layout_of a.self.now.density) f t.cells.count t.track a.self.now.sectors.now a.s a.k is))
