-- Zeros among packed cells, and lists of cells put together. Assumes nothing.
use Prim.Native.Nat.{ℕ, zero, suc, ◌+◌, ◌*◌, ◌<◌, ◌≤◌}
use mathlib.Core.Path.{◌≡◌, refl, sym, ap, ◌∙◌}
use mathlib.Core.List.{List, [], ◌∷◌, ◌++◌}
use native.Mathlib.Nat.{min-eq_left}
use native.Mathlib.Omega.{arith}
use lib.ListN.{length, get_or, drop, replicate, length-replicate}
use Rattle.basis.specs.Lists.{listed}
use Rattle.basis.proofs.Lists.{is-listed, listed_same}
use Rattle.cells.specs.CellsAndBytes.{word, list_cell, packed_byte, cleared}
use Rattle.cells.proofs.Words.{word_same}
use Rattle.cells.proofs.Packing.{Cells}

pub word-zeros : (f : ℕ → ℕ) (k p : ℕ) → ((i : ℕ) → i < k → f (p + i) ≡ 0) → word f k p ≡ 0
unfolding word
word-zeros f zero p h = refl
word-zeros f (suc k) p h = omega (arith, word-zeros f k p (λ i l. h i (omega arith)), h k (omega arith))

-- lists of cells
pub cells-append : (xs ys : List ℕ) → Cells xs → Cells ys → Cells (xs ++ ys)
cells-append [] ys f g i = g i
cells-append (x ∷ xs) ys f g zero = f 0
cells-append (x ∷ xs) ys f g (suc i) = cells-append xs ys (λ j. f (suc j)) g i

zeros_are : (k i : ℕ) → ◌≡◌ {A = ℕ} (get_or (replicate k 0) i 0) 0
zeros_are zero i = refl
zeros_are (suc k) zero = refl
zeros_are (suc k) (suc i) = zeros_are k i

pub cells-zeros : (k : ℕ) → Cells (replicate k 0)
cells-zeros k i = omega (arith, zeros_are k i)

pub cells-one : Cells (1 ∷ [])
cells-one zero = omega arith
cells-one (suc i) = omega arith

-- zeros appended
appended-zeros : (q : List ℕ) (k i : ℕ) → get_or (q ++ replicate k 0) i 0 ≡ get_or q i 0
appended-zeros [] k i = zeros_are k i
appended-zeros (x ∷ q) k zero = refl
appended-zeros (x ∷ q) k (suc i) = appended-zeros q k i

pub packed-with-zeros : (q : List ℕ) (k n : ℕ) → listed (packed_byte (q ++ replicate k 0)) n ≡ listed (packed_byte q) n
unfolding packed_byte
packed-with-zeros q k n =
    listed_same _ _ n (λ i h. word_same (list_cell (q ++ replicate k 0)) (list_cell q) 8 (8 * i) (8 * i) (λ j l. appended-zeros q k (8 * i + j)))

-- no cells yet: a buffer whose front is cleared
packed_none : (n : ℕ) → replicate n 0 ≡ listed (packed_byte []) n
unfolding packed_byte
packed_none n =
    is-listed (packed_byte []) 0 (replicate n 0) (λ i h. zeros_are n i ∙ sym (word-zeros (list_cell []) 8 (8 * i) (λ j l. refl)))
    ∙ ap (listed (packed_byte [])) (length-replicate n 0)

pub cleared-front : (n : ℕ) (buffer : List ℕ) → n ≤ length buffer → cleared n buffer ≡ listed (packed_byte []) n ++ drop n buffer
unfolding cleared
cleared-front n buffer h = rw (min-eq_left h, length-replicate, packed_none n)
