-- `sector_records::check_word` meets its contract: after i turns 4 i bytes are decoded. Assumes nothing.
use Prim.Native.Nat.{ℕ, ◌+◌, ◌*◌}
use mathlib.Core.Path.{◌≡◌, ap, ◌∙◌}
use native.Mathlib.Omega.{arith}
use mathlib.Core.List.{List}
use lib.ListN.{get_or, length-replicate, length-set}
use Rattle.cells.specs.CellsAndBytes.{word}
use Rattle.cells.proofs.Places.{cell-lt}
use Rattle.mfm.specs.Coding.{data_cell}
use Rattle.crc.specs.CheckWord.{check_word_from}
use Rattle.sector_records.specs.PrivateContracts.{cells_on}
use Rattle.sector_records.proofs.Checks.{decoded-none, decoded-four, decoded-all}
use Rattle.sector_records.proofs.check_word.Goals as goal

pub loop-i-init : goal.loop-i-init
loop-i-init c = record { long = length-replicate {A = ℕ} 1028 0; decoded = decoded-none _ _ _ }

pub loop-i-preserved : goal.loop-i-preserved
loop-i-preserved c =
    let a = c.args in
    let f = cells_on a.cells in
    let bit = cell-lt a.cells.bytes.now a.cells.count in
    let i = 4 * c.loop-i.i in
    let x = c.data_cells.result in
    let four : x ≡ word (data_cell f (a.p + 16 * i)) 32 0 = c.data_cells.ensures f (a.p + 16 * i) bit (c.word_from.ensures ∙ ap (word f 64) (omega arith)) in
    let be = c.to_be_bytes-four.ensures in
    let e : 4 * (c.loop-i.i + 1) ≡ i + 4 = omega arith in
    record {
      long = simp length-set c.loop-i.invariant.long;
      decoded = rw e (decoded-four f bit a.p c.loop-i.decoded i x _ _ _ _ c.loop-i.invariant.decoded (omega (arith, c.loop-i.invariant.long)) four
          (ap (λ (bytes : List ℕ). get_or bytes 4 0) be) (ap (λ (bytes : List ℕ). get_or bytes 5 0) be) (ap (λ (bytes : List ℕ). get_or bytes 6 0) be) (ap (λ (bytes : List ℕ). get_or bytes 7 0) be));
    }

pub returns : goal.returns
returns c =
    let a = c.args in
    c.check_word_from.ensures
    ∙ ap (check_word_from a.start) (decoded-all (cells_on a.cells) a.p c.loop-i.decoded a.k (4 * c.loop-i.i) c.loop-i.invariant.decoded (omega arith) (omega (arith, c.loop-i.invariant.long)))
