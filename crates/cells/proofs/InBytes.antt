-- Words of cells that lie in packed bytes. Assumes nothing.
use Prim.Native.Nat.{ℕ, ◌+◌, ◌-◌, ◌*◌, ◌/◌, ◌%◌, ◌^◌, ◌<◌, ◌≤◌}
use mathlib.Core.Path.{◌≡◌, sym, ap, ◌∙◌}
use mathlib.Core.List.{List}
use native.Mathlib.Nat.{add-mul, mul_assoc, add_assoc}
use native.Mathlib.Omega.{arith}
use lib.ListN.{get_or}
use lib.Pow.{high, low, pow-add}
use Rattle.cells.specs.CellsAndBytes.{bit_of, cell_at, cell, word}
use Rattle.cells.proofs.Packing.{word-bits}
use Rattle.cells.proofs.Places.{cell_at-lt, cell-low}
use Rattle.cells.proofs.Words.{word_lt, word_split, word_same}

-- cell j of byte k
cell-of-byte : (bytes : List ℕ) (k j : ℕ) → j < 8 → cell_at bytes (8 * k + j) ≡ bit_of (get_or bytes k 0) (0 + j)
unfolding cell_at
cell-of-byte bytes k j h =
    let d : (8 * k + j) / 8 ≡ k = omega arith in
    let m : (8 * k + j) % 8 ≡ 0 + j = omega arith in
    rw (d, m)

-- the eight cells of a byte are the byte
pub word-of-byte : (bytes : List ℕ) (k : ℕ) → get_or bytes k 0 < 256 → word (cell_at bytes) 8 (8 * k) ≡ get_or bytes k 0
word-of-byte bytes k h = word_same (cell_at bytes) (bit_of (get_or bytes k 0)) 8 (8 * k) 0 (cell-of-byte bytes k) ∙ word-bits (get_or bytes k 0) h

regroup : (a b c w d : ℕ) → a * (b * c) + (w * c + d) ≡ (a * b + w) * c + d
regroup a b c w d = rw (add-mul (a * b) w c, mul_assoc a b c) (sym (add_assoc (a * (b * c)) (w * c) d))

-- the j cells in the middle of a longer word
pub word-middle : (f : ℕ → ℕ) → ((i : ℕ) → f i < 2) → (o j m p : ℕ) → word f (o + (j + m)) p / 2 ^ m % 2 ^ j ≡ word f j (p + o)
word-middle f bit o j m p =
    let e : word f (o + (j + m)) p ≡ (word f o p * 2 ^ j + word f j (p + o)) * 2 ^ m + word f m (p + o + j) =
    word_split f bit o (j + m) p ∙ rw (pow-add 2 j m, word_split f bit j m (p + o)) (regroup (word f o p) (2 ^ j) (2 ^ m) (word f j (p + o)) (word f m (p + o + j))) in
    rw (e, high (word f o p * 2 ^ j + word f j (p + o)) m (word_lt f bit m (p + o + j))) (low (word f o p) j (word_lt f bit j (p + o)))

module _ (bytes : List ℕ) (small : (i : ℕ) → get_or bytes i 0 < 256) where
  three-bytes : (k : ℕ) → word (cell_at bytes) 24 (8 * k) ≡ get_or bytes k 0 * 65536 + get_or bytes (k + 1) 0 * 256 + get_or bytes (k + 2) 0
  three-bytes k =
      let e : 8 * k + 8 ≡ 8 * (k + 1) = omega arith in
      let g : 8 * (k + 1) + 8 ≡ 8 * (k + 2) = omega arith in
      let s = word_split (cell_at bytes) (cell_at-lt bytes) 8 8 (8 * (k + 1)) in
      word_split (cell_at bytes) (cell_at-lt bytes) 8 16 (8 * k)
      ∙ rw (e, s, g, word-of-byte bytes k (small k), word-of-byte bytes (k + 1) (small (k + 1)), word-of-byte bytes (k + 2) (small (k + 2))) (omega arith)

  -- sixteen cells of a track that lie before its end, out of three bytes
  pub word-in-three : (n p : ℕ) → p + 16 ≤ n
      → (get_or bytes (p / 8) 0 * 65536 + get_or bytes (p / 8 + 1) 0 * 256 + get_or bytes (p / 8 + 2) 0) / 2 ^ (8 - p % 8) % 65536 ≡ word (cell bytes n) 16 p
  word-in-three n p h =
      let s : p % 8 + (16 + (8 - p % 8)) ≡ 24 = omega arith in
      let q : 8 * (p / 8) + p % 8 ≡ p = omega arith in
      let m : word (cell_at bytes) 24 (8 * (p / 8)) / 2 ^ (8 - p % 8) % 2 ^ 16 ≡ word (cell_at bytes) 16 (8 * (p / 8) + p % 8) =
      rw s at (word-middle (cell_at bytes) (cell_at-lt bytes) (p % 8) 16 (8 - p % 8) (8 * (p / 8))) in
      rw (← three-bytes (p / 8)) (m ∙ ap (word (cell_at bytes) 16) q ∙ sym (word_same (cell bytes n) (cell_at bytes) 16 p p (λ i l. cell-low bytes n (p + i) (omega arith))))
