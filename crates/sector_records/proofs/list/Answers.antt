-- `sector_records::list` meets its contract. Assumes nothing.
use Prim.Native.Nat.{ℕ, ◌+◌, ◌/◌}
use mathlib.Core.Bool.{true}
use native.Mathlib.Omega.{arith}
use lib.ListN.{length-replicate}
use Rattle.cell_words.specs.Tests.{one_at, kept_from, thrice_at}
use Rattle.cell_words.proofs.Words.{holds-less, holds_same}
use Rattle.sector_records.specs.Marks.{mark_at, word_mark_at}
use Rattle.sector_records.specs.PrivateContracts.{cells_on, likely_at}
use Rattle.sector_records.proofs.Marks.{marks-are, likely-are, single-sync, double-sync, single-density, double-density}
use Rattle.sector_records.proofs.list.Goals as goal

pub invariant_of-marked : goal.invariant_of-marked
invariant_of-marked c =
    let a = c.args in
    let d = c.layout_of-layout in
    let n = a.cells.count in
    let f = cells_on a.cells in
    let one = single-density d.result a.density d.ensures.layout c.in-Single.is in
    let held = rw (single-sync a.density (rw d.ensures.layout at one)) at c.requires.1.syncs_are in
    record {
      is_layout = d.ensures.layout;
      sound = d.ensures.sound;
      is_map = (c.requires.0, λ other. absurd (other one), λ g. holds-less (word_mark_at f 0xF57E) _ (n / 64 + 64) (n / 64 + 63) held (omega arith));
    }

pub returns-in-Single : goal.returns-in-Single
returns-in-Single c = rw (← c.layout_of-layout.ensures.layout) c.sectors.ensures

pub invariant_of-marked-in-Double : goal.invariant_of-marked-in-Double
invariant_of-marked-in-Double c =
    let a = c.args in
    let d = c.layout_of-layout in
    let n = a.cells.count in
    let f = cells_on a.cells in
    let other = double-density d.result a.density d.ensures.layout c.in-Double.is in
    let held = rw (double-sync a.density (λ g. other (rw d.ensures.layout g))) at c.requires.1.syncs_are in
    let y = c.thrice_map.ensures (word_mark_at f 0x4489) (holds-less (word_mark_at f 0x4489) _ (n / 64 + 64) (n / 64 + 63 + 1) held (omega arith)) (omega arith) (length-replicate {A = ℕ} 2116 0) in
    let marks = holds_same (thrice_at (word_mark_at f 0x4489)) (mark_at f) (marks-are f) _ _ y.1 in
    let k = c.keep_map.ensures (one_at f) (mark_at f) (holds-less (one_at f) _ (n / 64 + 68) (n / 64 + 63 + 1) c.requires.1.ones (omega arith)) marks (omega arith) (omega arith) (omega arith) y.0 in
    record {
      is_layout = d.ensures.layout;
      sound = d.ensures.sound;
      is_map = (c.requires.0, λ g. holds_same (kept_from 51 true (one_at f) (mark_at f)) (likely_at f) (likely-are f) _ _ k.1, λ g. absurd (other g));
    }

pub returns-in-Double : goal.returns-in-Double
returns-in-Double c = rw (← c.layout_of-layout.ensures.layout) c.sectors-in-Double.ensures
