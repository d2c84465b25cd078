-- `Writer::put_byte` meets its contract. Assumes nothing.
use Prim.Native.Nat.{ℕ, ◌/◌, ◌%◌}
use mathlib.Core.Path.{◌≡◌, refl, sym, ◌∙◌, ap, ap₂}
use mathlib.Core.Bool.{cond}
use mathlib.Core.List.{◌++◌}
use native.Mathlib.Omega.{arith}
use borrow.Author.Rules.{rules}
use lib.Dec.{eqb}
use lib.ListN.{get_or}
use Rattle.mfm.specs.Coding.{byte_cells}
use Rattle.track_writer.specs.PrivateContracts.{two_bytes}
use Rattle.track_writer.proofs.Laws.{odd_is, cells_in, for-5, for-6, for-7, for-other, once, twice}
use Rattle.track_writer.proofs.Writer.put_byte.Goals.{in-245, in-246, in_default}
use Rattle.track_writer.proofs.Writer.put_byte.Goals as goal

pub returns-in-247 : goal.returns-in-247
returns-in-247 c =
    let a = c.args in
    let w = a.self.word in
    let h = get_or c.to_be_bytes.result 0 0 in
    let l = get_or c.to_be_bytes.result 1 0 in
    let high : h ≡ w / 256 = rw c.to_be_bytes.ensures (omega arith) in
    let low : l ≡ w % 256 = rw c.to_be_bytes.ensures refl in
    let x = c.cells_by.ensures ∙ cells_in c.requires.0 a.self.odd h (omega (arith, high)) ∙ ap (byte_cells (cond a.self.odd 1 0)) high in
    let y = c.cells_by-in-247.ensures ∙ cells_in c.requires.0 (eqb (h % 2) 1) l (omega (arith, low)) ∙ ap (λ (b : ℕ). byte_cells b l) (odd_is h) ∙ ap₂ (λ (h l : ℕ). byte_cells (h % 2) l) high low in
    twice a.self a.byte a.cells.now a.at _ _ _ _ (for-7 _ _ c.in-247.is ∙ ap₂ (λ (u v : ℕ). two_bytes u ++ two_bytes v) (sym x) (sym y)) c.requires.1
    c.put-in-247.ensures c.put-in-247-2.ensures

pub returns : goal.returns
returns c =
    let a = c.args in
    elim c.match-byte.branch [
      | in-245 w ↦ once a.self a.byte a.cells.now a.at 0x4489 _ (for-5 _ _ w.in-245.is) (w.cells-is ∙ w.put.ensures)
      | in-246 w ↦ once a.self a.byte a.cells.now a.at 0x5224 _ (for-6 _ _ w.in-246.is) (w.cells-is ∙ w.put-in-246.ensures)
      | in_default w ↦ once a.self a.byte a.cells.now a.at _ _
          (for-other _ _ (search rules) (search rules) (search rules) ∙ ap two_bytes (sym (w.cells_by-in_default.ensures ∙ cells_in c.requires.0 a.self.odd a.byte (omega arith))))
          (w.cells-is ∙ w.put-in_default.ensures)
    ]
