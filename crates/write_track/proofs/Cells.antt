-- What Write Track leaves in a room for the most cells: the cells of the list, or the refusal 20. Assumes nothing.
use Prim.Native.Nat.{ℕ, suc, ◌+◌, ◌*◌, ◌/◌, ◌<◌, ◌≤◌}
use mathlib.Core.Path.{◌≡◌, refl, sym, ◌∙◌, ap, subst}
use mathlib.Core.Bool.{Bool, true, false, cond}
use mathlib.Core.List.{List, [], ◌∷◌, ◌++◌}
use native.Mathlib.Omega.{arith}
use borrow.Author.Tests.{ltb-true, ltb-false}
use lib.Dec.{eqb, ltb}
use lib.ListN.{length, take, drop}
use lib.Seq.{take_at}
use Rattle.cells.specs.CellsAndBytes.{bytes_for}
use Rattle.refusals.specs.RefusedCalls.{Answer, number_of, value_of, answer_of, buffer_after}
use Rattle.refusals.specs.RefusedCalls.Answer.{gives, refused}
use Rattle.std.specs.Prelude.{Result, Ok, Err}
use Rattle.refusals.specs.declared.Refusal.{Refusal}
use Rattle.track_writer.specs.Calls.{judged, write_answer, written_after}
use Rattle.track_writer.specs.WriteTrack.Piece.{coded, sync_a1, sync_c2}
use Rattle.track_writer.specs.WriteTrack.{pieces_from, pieces_of, written, cell_count}
use Rattle.track_writer.proofs.Laws.{length-written}

-- an answer, taken apart
number_in : Answer ℕ → ℕ
number_in (gives count) = 0
number_in (refused number value) = number

value_in : Answer ℕ → ℕ
value_in (gives count) = count
value_in (refused number value) = value

is-refused : Answer ℕ → ℕ
is-refused (gives count) = 0
is-refused (refused number value) = 1

-- what is judged, by its two tests
judged-count : (cells room count : ℕ) → gives count ≡ judged cells room → (count ≡ cells) × (cells ≤ 131072)
unfolding judged number_in value_in
judged-count cells room count = go (ltb 131072 cells) refl (ltb room (bytes_for cells))
  where
    go : (x : Bool) → ltb 131072 cells ≡ x → (y : Bool) → gives count ≡ cond x (refused 20 0) (cond y (refused 10 (bytes_for cells)) (gives cells))
        → (count ≡ cells) × (cells ≤ 131072)
    go true a y e = let z : ◌≡◌ {A = ℕ} 0 20 = ap number_in e in absurd (omega arith)
    go false a true e = let z : ◌≡◌ {A = ℕ} 0 10 = ap number_in e in absurd (omega arith)
    go false a false e = (ap value_in e, ltb-false 131072 cells a)

judged-refused : (cells number value : ℕ) → refused number value ≡ judged cells 16384 → (number ≡ 20) × (131072 < cells)
unfolding judged number_in is-refused
judged-refused cells number value = go (ltb 131072 cells) refl (ltb 16384 (bytes_for cells)) refl
  where
    go : (x : Bool) → ltb 131072 cells ≡ x → (y : Bool) → ltb 16384 (bytes_for cells) ≡ y
        → refused number value ≡ cond x (refused 20 0) (cond y (refused 10 (bytes_for cells)) (gives cells)) → (number ≡ 20) × (131072 < cells)
    go true a y b e = (ap number_in e, ltb-true 131072 cells a)
    go false a true b e = let few = ltb-false 131072 cells a in let much = ltb-true 16384 (bytes_for cells) b in absurd (omega arith)
    go false a false b e = let one : ◌≡◌ {A = ℕ} 1 0 = ap is-refused e in absurd (omega arith)

-- so many cells are given, those of the list, and they stand at the front
pub record Given (list cells : List ℕ) (count : ℕ) : Type 0 where
  pub count_is : count ≡ cell_count list
  pub few : cell_count list ≤ 131072
  pub front_is : take (count / 8) cells ≡ written list

-- the call in a room of 16,384 bytes
module _ (list before : List ℕ) (long : length before ≡ 16384) (answer : Result ℕ Refusal) {cells : List ℕ}
    (call : (answer_of answer ≡ write_answer list before) × (cells ≡ written_after list before)) where
  pub given : {count : ℕ} → answer ≡ Ok count → Given list cells count
  unfolding cell_count buffer_after
  given {count} e =
      let told : gives count ≡ write_answer list before = ap answer_of (sym e) ∙ call.0 in
      let is = judged-count (cell_count list) (length before) count told in
      let made : cells ≡ written list ++ drop (length (written list)) before =
      call.1 ∙ ap (λ (a : Answer ℕ). buffer_after a (written list) before) (sym told) in
      let bytes : length (written list) ≡ count / 8 = omega (arith, length-written list, is.0) in
      record {
        count_is = is.0;
        few = is.1;
        front_is = ap (take (count / 8)) made ∙ take_at (written list) (drop (length (written list)) before) (count / 8) bytes;
      }

  -- or it is refused with 20
  pub too_long : {refusal : Refusal} → answer ≡ Err refusal → (number_of refusal ≡ 20) × (131072 < cell_count list)
  too_long {refusal} e =
      judged-refused (cell_count list) (number_of refusal) (value_of refusal) (ap answer_of (sym e) ∙ call.0 ∙ ap (judged (cell_count list)) long)

-- a list has at least as many pieces as bytes
module _ (b : ℕ) (bs : List ℕ) (more : (w : ℕ) (run : Bool) → length bs ≤ length (pieces_from w run bs)) (v₁ v₂ v₃ v₄ c₁ c₂ : ℕ) where
  with-a-byte : (x y z : Bool)
      → suc (length bs)
      ≤ length
      (cond x (sync_a1 ∷ pieces_from v₁ true bs)
      (cond y (sync_c2 ∷ pieces_from v₂ false bs) (cond z (coded c₁ ∷ coded c₂ ∷ pieces_from v₃ false bs) (coded b ∷ pieces_from v₄ false bs))))
  with-a-byte true y z = omega (arith, more v₁ true)
  with-a-byte false true z = omega (arith, more v₂ false)
  with-a-byte false false true = omega (arith, more v₃ false)
  with-a-byte false false false = omega (arith, more v₄ false)

a-piece-each : (w : ℕ) (run : Bool) (list : List ℕ) → length list ≤ length (pieces_from w run list)
unfolding pieces_from
a-piece-each w run [] = omega arith
a-piece-each w run (b ∷ bs) = with-a-byte b bs (λ v r. a-piece-each v r bs) _ _ _ _ _ _ (eqb b 0xF5) (eqb b 0xF6) (eqb b 0xF7)

pub many-cells : (list : List ℕ) → 8192 < length list → 131072 < cell_count list
unfolding cell_count
many-cells list h = omega (arith, a-piece-each 0xFFFF false list)
