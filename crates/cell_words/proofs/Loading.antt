-- Words of cells out of bytes. Assumes nothing.
use Prim.Native.Nat.{ℕ, ◌+◌, ◌-◌, ◌*◌, ◌/◌, ◌%◌, ◌^◌, ◌<◌, ◌≤◌}
use mathlib.Core.Path.{◌≡◌, sym, ap, ◌∙◌}
use mathlib.Core.List.{List}
use native.Mathlib.Nat.{mod-add-mod}
use native.Mathlib.Omega.{arith}
use lib.Bits.{bit_or}
use lib.ListN.{get_or}
use Rattle.cells.specs.CellsAndBytes.{cell_at, cell, word, word_at}
use Rattle.cells.proofs.Words.{word_split, word_same}
use Rattle.cells.proofs.Places.{cell_at-lt, cell-is, cell-low}
use Rattle.cells.proofs.InBytes.{word-of-byte}
use Rattle.cells.proofs.Standing.{word-is}
use Rattle.cell_words.proofs.Words.{word_over}

module _ (bytes : List ℕ) (small : (i : ℕ) → get_or bytes i 0 < 256) where
  byte_more : (j k m : ℕ) → k + 1 ≡ m → word (cell_at bytes) (8 + j) (8 * k) ≡ get_or bytes k 0 * 2 ^ j + word (cell_at bytes) j (8 * m)
  byte_more j k m e =
      let g : 8 * k + 8 ≡ 8 * m = omega arith in
      rw (g, word-of-byte bytes k (small k)) at (word_split (cell_at bytes) (cell_at-lt bytes) 8 j (8 * k))

  -- eight bytes, joined as the code does it
  pub eight-bytes-are : (k x : ℕ)
      → x ≡ (get_or bytes k 0 * 0x0100_0000 + get_or bytes (k + 1) 0 * 0x0001_0000 + get_or bytes (k + 2) 0 * 0x0100 + get_or bytes (k + 3) 0) * 0x0001_0000_0000
      + (get_or bytes (k + 4) 0 * 0x0100_0000 + get_or bytes (k + 5) 0 * 0x0001_0000 + get_or bytes (k + 6) 0 * 0x0100 + get_or bytes (k + 7) 0)
      → x ≡ word (cell_at bytes) 64 (8 * k)
  eight-bytes-are k x s =
      let a0 = byte_more 56 k (k + 1) (omega arith) in
      let a1 = byte_more 48 (k + 1) (k + 2) (omega arith) in
      let a2 = byte_more 40 (k + 2) (k + 3) (omega arith) in
      let a3 = byte_more 32 (k + 3) (k + 4) (omega arith) in
      let a4 = byte_more 24 (k + 4) (k + 5) (omega arith) in
      let a5 = byte_more 16 (k + 5) (k + 6) (omega arith) in
      let a6 = byte_more 8 (k + 6) (k + 7) (omega arith) in
      let a7 = word-of-byte bytes (k + 7) (small (k + 7)) in
      omega arith

  -- and a part of a ninth
  pub nine-bytes-are : (k s x b : ℕ) → s < 8 → x ≡ word (cell_at bytes) 64 (8 * k) → b ≡ get_or bytes (k + 8) 0
      → bit_or (x * 2 ^ s % 2 ^ 64) (b / 2 ^ (8 - s)) ≡ word (cell_at bytes) 64 (8 * k + s)
  nine-bytes-are k s x b h e g =
      let n : 8 * (k + 8) ≡ 8 * k + 64 = omega arith in
      let y : b ≡ word (cell_at bytes) 8 (8 * k + 64) = g ∙ sym (word-of-byte bytes (k + 8) (small (k + 8))) ∙ ap (word (cell_at bytes) 8) n in
      rw (e, y) (word_over (cell_at bytes) (cell_at-lt bytes) 8 s (8 * k) (omega arith) (omega arith))

-- the same place on the ring
pub same_place : (bytes : List ℕ) (n p q : ℕ) → 0 < n → cell bytes n (p % n + q) ≡ cell bytes n (p + q)
same_place bytes n p q h =
    cell-is bytes n (p % n + q) h ∙ ap (cell_at bytes) (mod-add-mod p n q) ∙ sym (cell-is bytes n (p + q) h)

module _ (bytes : List ℕ) (n at p x : ℕ) where
  word_moved : ((q : ℕ) → cell bytes n (at + q) ≡ cell bytes n (p + q)) → word (cell bytes n) 64 at ≡ word (cell bytes n) 64 p
  word_moved same = word_same (cell bytes n) (cell bytes n) 64 at p (λ i l. same i)

  pub word-in-nine : at + 64 ≤ n → ((q : ℕ) → cell bytes n (at + q) ≡ cell bytes n (p + q))
      → x ≡ word (cell_at bytes) 64 (8 * (at / 8) + at % 8) → x ≡ word (cell bytes n) 64 p
  word-in-nine h same e =
      let g : 8 * (at / 8) + at % 8 ≡ at = omega arith in
      e ∙ ap (word (cell_at bytes) 64) g ∙ sym (word_same (cell bytes n) (cell_at bytes) 64 at at (λ j l. cell-low bytes n (at + j) (omega arith))) ∙ word_moved same

  pub word-at-place : ((q : ℕ) → cell bytes n (at + q) ≡ cell bytes n (p + q)) → x ≡ word_at bytes n at 64 → x ≡ word (cell bytes n) 64 p
  word-at-place same e = e ∙ word-is bytes n 64 0 at (omega arith) ∙ word_moved same

-- a word that lies whole on the track
pub eight-at : (bytes : List ℕ) (n w x : ℕ) → 64 * w + 64 ≤ n → x ≡ word (cell_at bytes) 64 (8 * (8 * w)) → x ≡ word (cell bytes n) 64 (64 * w)
eight-at bytes n w x h e =
    let g : 8 * (8 * w) ≡ 64 * w = omega arith in
    e ∙ ap (word (cell_at bytes) 64) g ∙ sym (word_same (cell bytes n) (cell_at bytes) 64 (64 * w) (64 * w) (λ j l. cell-low bytes n (64 * w + j) (omega arith)))
