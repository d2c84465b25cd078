-- A byte by the data cells of its two bytes of cells, or of the word of its sixteen cells. Assumes nothing.
use Prim.Native.Nat.{ℕ, ◌+◌, ◌*◌, ◌/◌, ◌%◌, ◌^◌, ◌<◌}
use mathlib.Core.Path.{◌≡◌, sym, ap, ap₂, ◌∙◌}
use mathlib.Core.List.{List}
use native.Mathlib.Nat.{div-one}
use native.Mathlib.Omega.{arith}
use lib.ListN.{get_or}
use Rattle.cells.specs.CellsAndBytes.{bit_of, cell_at, word}
use Rattle.cells.proofs.Packing.{word-bit}
use Rattle.cells.proofs.Words.{word_lt, word_split}
use Rattle.cells.proofs.Places.{cell_at-lt}
use Rattle.mfm.specs.Coding.{data_cell, byte_on, decoded_byte}

-- the four-digits data cells of a byte of cells
abbrev pub nibble_of : ℕ → ℕ
nibble_of cells = cells / 2 ^ 6 % 2 * 8 + cells / 2 ^ 4 % 2 * 4 + cells / 2 ^ 2 % 2 * 2 + cells % 2

four-digits : (x y z w : ℕ) → 2 * (2 * (2 * (2 * 0 + x) + y) + z) + w ≡ x * 8 + y * 4 + z * 2 + w
four-digits x y z w = omega arith

word-of-nibble : (f : ℕ → ℕ) (cells q : ℕ) → ((j : ℕ) → j < 4 → f (q + j) ≡ bit_of cells (2 * j + 1)) → word f 4 q ≡ nibble_of cells
unfolding word
word-of-nibble f cells q h =
    rw (h 0 (omega arith), h 1 (omega arith), h 2 (omega arith), h 3 (omega arith), div-one cells)
    (four-digits (cells / 2 ^ 6 % 2) (cells / 2 ^ 4 % 2) (cells / 2 ^ 2 % 2) (cells % 2))

-- data cell j of byte k of the cells
data-cell-is : (cells : List ℕ) (k j p : ℕ) → j < 4 → p ≡ 8 * k + (2 * j + 1) → cell_at cells p ≡ bit_of (get_or cells k 0) (2 * j + 1)
unfolding cell_at
data-cell-is cells k j p h e =
    let d : p / 8 ≡ k = omega arith in
    let m : p % 8 ≡ 2 * j + 1 = omega arith in
    rw (d, m)

pub by-nibbles : (cells : List ℕ) (i : ℕ) → nibble_of (get_or cells (2 * i) 0) * 16 + nibble_of (get_or cells (2 * i + 1) 0) ≡ decoded_byte cells i
unfolding decoded_byte byte_on
by-nibbles cells i =
    let f = data_cell (cell_at cells) (16 * i) in
    let s = word_split f (λ j. cell_at-lt cells (16 * i + (2 * j + 1))) 4 4 0 in
    let a = word-of-nibble f (get_or cells (2 * i) 0) 0 (λ j h. data-cell-is cells (2 * i) j (16 * i + (2 * (0 + j) + 1)) h (omega arith)) in
    let b = word-of-nibble f (get_or cells (2 * i + 1) 0) 4 (λ j h. data-cell-is cells (2 * i + 1) j (16 * i + (2 * (4 + j) + 1)) h (omega arith)) in
    sym (s ∙ ap₂ (λ (x y : ℕ). x * 16 + y) a b)

-- the byte of a word of sixteen cells
pub by_word : (f : ℕ → ℕ) → ((i : ℕ) → f i < 2) → (p w : ℕ) → w ≡ word f 16 p → nibble_of (w / 256) * 16 + nibble_of (w % 256) ≡ byte_on f p
unfolding byte_on
by_word f bit p w e =
    let d = word_split f bit 8 8 p in
    let l = word_lt f bit 8 (p + 8) in
    let x : w / 256 ≡ word f 8 p = omega arith in
    let y : w % 256 ≡ word f 8 (p + 8) = omega arith in
    let a = word-of-nibble (data_cell f p) (word f 8 p) 0 (λ j h. data-cell-of p j (p + (2 * (0 + j) + 1)) h (omega arith)) in
    let b = word-of-nibble (data_cell f p) (word f 8 (p + 8)) 4 (λ j h. data-cell-of (p + 8) j (p + (2 * (4 + j) + 1)) h (omega arith)) in
    rw (x, y) (sym (word_split (data_cell f p) (λ j. bit (p + (2 * j + 1))) 4 4 0 ∙ ap₂ (λ (u v : ℕ). u * 16 + v) a b))
  where
    data-cell-of : (q j i : ℕ) → j < 4 → i ≡ q + (2 * j + 1) → f i ≡ bit_of (word f 8 q) (2 * j + 1)
    data-cell-of q j i h g = ap f g ∙ sym (word-bit f bit q (2 * j + 1) (omega arith))
