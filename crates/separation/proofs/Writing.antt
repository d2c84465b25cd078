-- The cells of timings written one timing after another: the front of the buffer is the cells passed, packed. Assumes nothing.
use Prim.Native.Nat.{ℕ, zero, suc, ◌+◌, ◌-◌, ◌*◌, ◌≤◌}
use mathlib.Core.Path.{◌≡◌, refl, sym, ◌∙◌, ap}
use mathlib.Core.Bool.{cond}
use mathlib.Core.List.{List, [], ◌∷◌, ◌++◌, append_assoc, append-nil}
use native.Mathlib.Omega.{arith}
use borrow.Author.Tests.{ne_eqb}
use lib.Dec.{eqb}
use lib.IntN.{ℤ, pos}
use lib.ListN.{length, drop, take, replicate, length-append, length-replicate, drop_of_length-le}
use lib.Seq.{drop_at, take_at, take_all}
use Rattle.basis.specs.Lists.{listed, written_over}
use Rattle.basis.proofs.Lists.{length-listed, listed-split}
use Rattle.cells.specs.CellsAndBytes.{bytes_for, packed_byte, packed, cleared, with_one}
use Rattle.cells.proofs.Packing.{Cells}
use Rattle.cells.proofs.Zeros.{cells-append, cells-zeros, packed-with-zeros, cleared-front}
use Rattle.cells.proofs.Appending.{packed-with-one}
use Rattle.separation.specs.Separation.{cells_for, cells_of_by}
use Rattle.separator.specs.Rule.{IsHalfWindow}
use Rattle.separation.proofs.Walk.{Walked, Turn, walk_start, start-passed, walk-next, next-passed, walk_end}

-- the cells q packed in the first `needed` bytes of a buffer, and then the rest
abbrev pub front_of : List ℕ → ℕ → List ℕ → List ℕ
front_of q needed rest = listed (packed_byte q) needed ++ rest

-- the cells of one timing more
pub front-with-timing : (q : List ℕ) → Cells q → (needed : ℕ) (rest : List ℕ) (at n : ℕ) → length q ≡ at → at + n ≤ 8 * needed
    → cond (eqb n 0) (front_of q needed rest) (with_one (front_of q needed rest) (at + (n - 1))) ≡ front_of (q ++ cells_for n) needed rest
unfolding cells_for
front-with-timing q bits needed rest at zero e h = rw (append-nil q)
front-with-timing q bits needed rest at (suc k) e h =
    let zs = q ++ replicate k 0 in
    let l : length zs ≡ at + (suc k - 1) = omega (arith, length-append q (replicate k 0), length-replicate {A = ℕ} k 0) in
    let b = cells-append q (replicate k 0) bits (cells-zeros k) in
    rw (ne_eqb (suc k) 0 (λ z. omega arith), ← l, ← packed-with-zeros q k needed) (packed-with-one zs b needed rest (omega arith))
    ∙ ap (λ (x : List ℕ). front_of x needed rest) (append_assoc q (replicate k 0) (1 ∷ []))

-- the room after i timings, where it was cells₀ before the first: as long as the cells fit, they are its front
pub record Filled (half : ℕ) (ts : List ℕ) (cells₀ cells : List ℕ) (at : ℕ) (r : ℤ) (i : ℕ) : Type 0 where
  pub walked : Walked half ts at r i
  pub long : length cells ≡ length cells₀
  pub front : at ≤ 131072 → cells ≡ front_of walked.passed 16384 (drop 16384 cells₀)

-- the front cleared, from a buffer that has room
module _ (needed : ℕ) (buffer : List ℕ) {cells₀ : List ℕ} (room : needed ≤ length buffer) (clear : cells₀ ≡ cleared needed buffer) where
  pub rest-kept : drop needed cells₀ ≡ drop needed buffer
  rest-kept =
      ap (drop needed) (clear ∙ cleared-front needed buffer room)
      ∙ drop_at (listed (packed_byte []) needed) (drop needed buffer) needed (length-listed (packed_byte []) needed)

  pub front-cleared : cells₀ ≡ front_of [] needed (drop needed cells₀)
  front-cleared = clear ∙ cleared-front needed buffer room ∙ ap (front_of [] needed) (sym rest-kept)

-- all cells packed
pub front-whole : (cells : List ℕ) (needed : ℕ) (buffer : List ℕ) → needed ≡ bytes_for (length cells)
    → front_of cells needed (drop needed buffer) ≡ written_over (packed cells) buffer
unfolding packed
front-whole cells needed buffer e = rw (length-listed (packed_byte cells) (bytes_for (length cells)), e)

pub filled-start : {half : ℕ} → IsHalfWindow half → (ts : List ℕ) {cells₀ : List ℕ} {r : ℤ} → r ≡ pos 0 → cells₀ ≡ front_of [] 16384 (drop 16384 cells₀)
    → Filled half ts cells₀ cells₀ 0 r 0
filled-start is-half ts {cells₀} e f =
    record { walked = walk_start is-half ts e; long = refl; front = λ h. f ∙ ap (λ (x : List ℕ). front_of x 16384 (drop 16384 cells₀)) (sym (start-passed is-half ts e)) }

-- one timing more, of n cells, that leaves the residual r'
module _ {half : ℕ} (is-half : IsHalfWindow half) {ts : List ℕ} {cells₀ cells : List ℕ} {at : ℕ} {r : ℤ} {i : ℕ} (f : Filled half ts cells₀ cells at r i)
    {n : ℕ} {r' : ℤ} (t : Turn half ts i r n r') where
  pub filled_next : (cells' : List ℕ) → cells' ≡ cond (eqb n 0) cells (with_one cells (at + (n - 1))) → length cells' ≡ length cells
      → Filled half ts cells₀ cells' (at + n) r' (i + 1)
  filled_next cells' e l =
      record {
        walked = walk-next is-half f.walked t;
        long = l ∙ f.long;
        front = λ h. e ∙ ap (λ (x : List ℕ). cond (eqb n 0) x (with_one x (at + (n - 1)))) (f.front (omega arith))
            ∙ front-with-timing f.walked.passed f.walked.bits 16384 (drop 16384 cells₀) at n f.walked.long (omega arith)
            ∙ ap (λ (x : List ℕ). front_of x 16384 (drop 16384 cells₀)) (sym (next-passed is-half f.walked t));
      }

-- all timings passed, in a room of 16,384 bytes
pub filled-end : {half : ℕ} {ts cells₀ cells : List ℕ} {at : ℕ} {r : ℤ} {i : ℕ} (f : Filled half ts cells₀ cells at r i)
    → length ts ≤ i → length cells₀ ≡ 16384 → length (cells_of_by half ts) ≤ 131072 → cells ≡ listed (packed_byte (cells_of_by half ts)) 16384
filled-end {half} {ts} {cells₀} f h l few =
    let e = walk_end f.walked h in
    f.front (omega (arith, ap length e, f.walked.long))
    ∙ ap (λ (x : List ℕ). listed (packed_byte f.walked.passed) 16384 ++ x) (let g : length cells₀ ≤ 16384 = omega arith in drop_of_length-le cells₀ g)
    ∙ append-nil (listed (packed_byte f.walked.passed) 16384)
    ∙ ap (λ (x : List ℕ). listed (packed_byte x) 16384) (sym e)

-- what is copied out of the room: the cells, packed
pub front-copied : (cells : List ℕ) (needed : ℕ) (room buffer out : List ℕ) → room ≡ listed (packed_byte cells) 16384 → needed ≡ bytes_for (length cells) → needed ≤ 16384
    → needed ≤ length buffer → out ≡ written_over (take (length buffer) (take needed room)) buffer → out ≡ written_over (packed cells) buffer
unfolding packed
front-copied cells needed room buffer out e n few h o =
    let l : needed + (16384 - needed) ≡ 16384 = omega arith in
    let whole : room ≡ listed (packed_byte cells) needed ++ listed (λ i. packed_byte cells (needed + i)) (16384 - needed) = e ∙ rw l at (listed-split (packed_byte cells) needed (16384 - needed)) in
    let first : take needed room ≡ listed (packed_byte cells) needed =
    ap (take needed) whole ∙ take_at (listed (packed_byte cells) needed) (listed (λ i. packed_byte cells (needed + i)) (16384 - needed)) needed (length-listed (packed_byte cells) needed) in
    let all : take (length buffer) (listed (packed_byte cells) needed) ≡ listed (packed_byte cells) needed =
    take_all (length buffer) (listed (packed_byte cells) needed) (omega (arith, length-listed (packed_byte cells) needed)) in
    o ∙ ap (λ (x : List ℕ). written_over x buffer) (ap (take (length buffer)) first ∙ all ∙ ap (listed (packed_byte cells)) n)
