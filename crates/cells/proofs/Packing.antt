-- Laws of packed cells. Assumes nothing.
use Prim.Native.Nat.{ℕ, ◌+◌, ◌-◌, ◌*◌, ◌/◌, ◌%◌, ◌^◌, ◌<◌, ◌≤◌}
use mathlib.Core.Path.{◌≡◌, ap, ◌∙◌}
use mathlib.Core.Bool.{Bool}
use mathlib.Core.List.{List, ◌++◌}
use native.Mathlib.Decide.{dec_le}
use native.Mathlib.Nat.{lt_of_not-le, zero-div}
use native.Mathlib.Numerals.{add-one}
use native.Mathlib.Omega.{arith}
use lib.Dec.{T, eqb, eqb→eq}
use lib.ListN.{length, get_or, length-append, get_or-append, get_or-eq_default}
use lib.Pow.{high}
use lib.Seq.{get_or-append-add}
use Rattle.basis.specs.Lists.{listed}
use Rattle.basis.proofs.Lists.{length-listed, get_d-listed, listed_same, listed-split}
use Rattle.basis.proofs.Tables.{below, passes-below}
use Rattle.cells.specs.CellsAndBytes.{bit_of, cell_at, word, bytes_for, list_cell, packed_byte, packed}
use Rattle.cells.proofs.Words.{word_lt, word_split, word_same}

-- a list of cells: each is 0 or 1
abbrev pub Cells : List ℕ → Type 0
Cells cells = (i : ℕ) → get_or cells i 0 < 2

-- the eight bits of a byte are the byte
bits_are : ℕ → Bool
bits_are byte = eqb (word (bit_of byte) 8 0) byte

all-bits-are : T (below bits_are 256)
unfolding bits_are word
all-bits-are = tt

pub word-bits : (byte : ℕ) → byte < 256 → word (bit_of byte) 8 0 ≡ byte
unfolding bits_are
word-bits byte h = eqb→eq _ _ (passes-below bits_are 256 all-bits-are byte h)

-- one cell out of a word of eight
module _ (f : ℕ → ℕ) (bit : (i : ℕ) → f i < 2) where
  pub word-bit : (q j : ℕ) → j < 8 → bit_of (word f 8 q) j ≡ f (q + j)
  unfolding word
  word-bit q j h =
      let s : j + 1 + (7 - j) ≡ 8 = omega arith in
      let e : word f 8 q ≡ word f (j + 1) q * 2 ^ (7 - j) + word f (7 - j) (q + (j + 1)) = rw s at (word_split f bit (j + 1) (7 - j) q) in
      let m : word f (j + 1) q ≡ word f j q * 2 + f (q + j) = one_more j in
      rw (e, high (word f (j + 1) q) (7 - j) (word_lt f bit (7 - j) (q + (j + 1))), m) (omega (arith, bit (q + j)))
    where
      one_more : (k : ℕ) → word f (k + 1) q ≡ word f k q * 2 + f (q + k)
      one_more k = rw (add-one k) (omega arith)

pub length-packed : (cells : List ℕ) → length (packed cells) ≡ bytes_for (length cells)
unfolding packed
length-packed cells = length-listed (packed_byte cells) (bytes_for (length cells))

-- reading the packed cells gives the cells
pub cell-packed : (cells : List ℕ) → Cells cells → (i : ℕ) → cell_at (packed cells) i ≡ get_or cells i 0
unfolding cell_at packed packed_byte
cell-packed cells h i = go (dec_le (bytes_for (length cells)) (i / 8))
  where
    go : Dec (bytes_for (length cells) ≤ i / 8) → bit_of (get_or (listed (packed_byte cells) (bytes_for (length cells))) (i / 8) 0) (i % 8) ≡ get_or cells i 0
    go (no b) =
        let l : i % 8 < 8 = omega arith in
        let s : 8 * (i / 8) + i % 8 ≡ i = omega arith in
        rw (get_d-listed (packed_byte cells) 0 (bytes_for (length cells)) (i / 8) (lt_of_not-le b))
        (word-bit (list_cell cells) h (8 * (i / 8)) (i % 8) l ∙ ap (list_cell cells) s)
    go (yes b) =
        let l : length cells ≤ i = omega arith in
        let m : length (listed (packed_byte cells) (bytes_for (length cells))) ≤ i / 8 = omega (arith, length-listed (packed_byte cells) (bytes_for (length cells))) in
        rw (get_or-eq_default cells 0 l, get_or-eq_default (listed (packed_byte cells) (bytes_for (length cells))) 0 m) (simp zero-div)

-- whole bytes of cells, and cells after them
pub packed-append : (m : ℕ) (xs ys : List ℕ) → length xs ≡ 8 * m → packed (xs ++ ys) ≡ packed xs ++ packed ys
unfolding packed packed_byte
packed-append m xs ys e =
    let n = bytes_for (length ys) in
    let a : bytes_for (length (xs ++ ys)) ≡ m + n = omega (arith, length-append xs ys) in
    let b : bytes_for (length xs) ≡ m = omega arith in
    rw (a, b, listed-split (packed_byte (xs ++ ys)) m n, listed_same (packed_byte (xs ++ ys)) (packed_byte xs) m front, listed_same (λ i. packed_byte (xs ++ ys) (m + i)) (packed_byte ys) n back)
  where
    front : (k : ℕ) → k < m → packed_byte (xs ++ ys) k ≡ packed_byte xs k
    front k h = word_same _ _ 8 (8 * k) (8 * k) (λ i l. get_or-append xs ys 0 (8 * k + i) (omega arith))

    back : (k : ℕ) → k < bytes_for (length ys) → packed_byte (xs ++ ys) (m + k) ≡ packed_byte ys k
    back k h = word_same _ _ 8 (8 * (m + k)) (8 * k) (λ i l. shift i)
      where
        shift : (i : ℕ) → get_or (xs ++ ys) (8 * (m + k) + i) 0 ≡ get_or ys (8 * k + i) 0
        shift i =
            let s : 8 * (m + k) + i ≡ length xs + (8 * k + i) = omega arith in
            rw s (get_or-append-add xs ys (8 * k + i) 0)
