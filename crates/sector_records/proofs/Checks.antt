-- Check words of the bytes on a track. Assumes nothing.
use Prim.Native.Nat.{ℕ, ◌+◌, ◌*◌, ◌/◌, ◌%◌, ◌^◌, ◌<◌, ◌≤◌}
use mathlib.Core.Path.{◌≡◌, sym, ap, ◌∙◌}
use mathlib.Core.List.{List}
use native.Mathlib.Decide.{ℕ_discrete}
use native.Mathlib.Nat.{zero-add}
use native.Mathlib.Numerals.{add-one}
use native.Mathlib.Omega.{arith}
use lib.Dec.{eqb}
use lib.ListN.{length, get_or, set, take, length-set}
use lib.Seq.{get_or-set_same, get_or-set_other}
use Rattle.basis.proofs.Lists.{take-listed, listed_same}
use Rattle.cells.specs.CellsAndBytes.{word}
use Rattle.cells.proofs.Words.{word_same}
use Rattle.cells.proofs.InBytes.{word-middle}
use Rattle.crc.specs.CheckWord.{check_word_from}
use Rattle.layouts.specs.declared.Layout.{Layout}
use Rattle.mfm.specs.Coding.{data_cell, byte_on}
use Rattle.sector_records.specs.Sectors.{byte_from, bytes_from, check_bytes, check_good}

-- byte k of those whose data cells are one word
data-byte : (f : ℕ → ℕ) (q k : ℕ) → word (data_cell f q) 8 (8 * k) ≡ byte_on f (q + 16 * k)
unfolding byte_on
data-byte f q k =
    word_same (data_cell f q) (data_cell f (q + 16 * k)) 8 (8 * k) 0
    (λ i l. let e : q + (2 * (8 * k + i) + 1) ≡ q + 16 * k + (2 * (0 + i) + 1) = omega arith in ap f e)

byte-in-four : (f : ℕ → ℕ) → ((i : ℕ) → f i < 2) → (q o k m x : ℕ) → x ≡ word (data_cell f q) (o + (8 + m)) 0 → o ≡ 8 * k → x / 2 ^ m % 256 ≡ byte_on f (q + 16 * k)
byte-in-four f bit q o k m x e g =
    ap (λ (y : ℕ). y / 2 ^ m % 256) e
    ∙ word-middle (data_cell f q) (λ i. bit (q + (2 * i + 1))) o 8 m 0
    ∙ ap (word (data_cell f q) 8) (zero-add o ∙ g)
    ∙ data-byte f q k

-- the first of them
pub byte-first : (f : ℕ → ℕ) → ((i : ℕ) → f i < 2) → (q x : ℕ) → x ≡ word (data_cell f q) 32 0 → x / 2 ^ 24 % 256 ≡ byte_on f q
byte-first f bit q x e = let z : q + 16 * 0 ≡ q = omega arith in byte-in-four f bit q 0 0 24 x e (omega arith) ∙ ap (byte_on f) z

-- a buffer whose first i bytes are those from p on
pub Decoded : (ℕ → ℕ) → ℕ → List ℕ → ℕ → Type 0
Decoded f p buffer i = (j : ℕ) → j < i → get_or buffer j 0 ≡ byte_from f p j

pub decoded-none : (f : ℕ → ℕ) (p : ℕ) (buffer : List ℕ) → Decoded f p buffer 0
unfolding Decoded
decoded-none f p buffer j h = absurd (omega arith)

module _ (f : ℕ → ℕ) (bit : (i : ℕ) → f i < 2) (p : ℕ) where
  decoded-more : (buffer : List ℕ) (i v m : ℕ) → Decoded f p buffer i → i < length buffer → v ≡ byte_on f (p + 16 * i) → i + 1 ≡ m → Decoded f p (set buffer i v) m
  unfolding Decoded byte_from
  decoded-more buffer i v m h l e g j b = go (ℕ_discrete j i)
    where
      go : Dec (j ≡ i) → get_or (set buffer i v) j 0 ≡ byte_on f (p + 16 * j)
      go (yes s) = rw s (get_or-set_same buffer i v 0 l ∙ e)
      go (no s) = get_or-set_other buffer i j v 0 s ∙ h j (omega arith)

  -- four bytes of 64 cells
  pub decoded-four : (buffer : List ℕ) (i x a b c d : ℕ) → Decoded f p buffer i → i + 3 < length buffer → x ≡ word (data_cell f (p + 16 * i)) 32 0
      → a ≡ x / 2 ^ 24 % 256 → b ≡ x / 2 ^ 16 % 256 → c ≡ x / 2 ^ 8 % 256 → d ≡ x % 256
      → Decoded f p (set (set (set (set buffer i a) (i + 1) b) (i + 2) c) (i + 3) d) (i + 4)
  decoded-four buffer i x a b c d h l e ea eb ec ed =
      let q = p + 16 * i in
      let at : (k : ℕ) → q + 16 * k ≡ p + 16 * (i + k) = λ k. omega arith in
      let zero : p + 16 * (i + 0) ≡ p + 16 * i = omega arith in
      let fa : a ≡ byte_on f (p + 16 * i) = ea ∙ byte-in-four f bit q 0 0 24 x e (omega arith) ∙ ap (byte_on f) (at 0 ∙ zero) in
      let fb : b ≡ byte_on f (p + 16 * (i + 1)) = eb ∙ byte-in-four f bit q 8 1 16 x e (omega arith) ∙ ap (byte_on f) (at 1) in
      let fc : c ≡ byte_on f (p + 16 * (i + 2)) = ec ∙ byte-in-four f bit q 16 2 8 x e (omega arith) ∙ ap (byte_on f) (at 2) in
      let fd : d ≡ byte_on f (p + 16 * (i + 3)) = ed ∙ last ∙ ap (byte_on f) (at 3) in
      decoded-more (set (set (set buffer i a) (i + 1) b) (i + 2) c) (i + 3) d (i + 4)
      (decoded-more (set (set buffer i a) (i + 1) b) (i + 2) c (i + 3)
      (decoded-more (set buffer i a) (i + 1) b (i + 2)
      (decoded-more buffer i a (i + 1) h (omega arith) fa (omega arith))
      (simp length-set (omega arith)) fb (omega arith))
      (simp length-set (omega arith)) fc (omega arith))
      (simp length-set (omega arith)) fd (omega arith)
    where
      last : x % 256 ≡ byte_on f (p + 16 * i + 16 * 3)
      last = ap (λ (y : ℕ). y % 256) (sym (by_one x)) ∙ byte-in-four f bit (p + 16 * i) 24 3 0 x e (omega arith)
        where
          by_one : (y : ℕ) → y / 2 ^ 0 ≡ y
          by_one y = omega arith

-- the first k of them
pub decoded-all : (f : ℕ → ℕ) (p : ℕ) (buffer : List ℕ) (k i : ℕ) → Decoded f p buffer i → k ≤ i → k ≤ length buffer → take k buffer ≡ bytes_from f p k
unfolding Decoded bytes_from
decoded-all f p buffer k i h l b = take-listed 0 buffer k b ∙ listed_same (λ j. get_or buffer j 0) (byte_from f p) k (λ j g. h j (omega arith))

-- a field's check word compared with its check bytes
pub good-is : (layout : Layout) (f : ℕ → ℕ) (p k word found : ℕ)
    → word ≡ check_word_from layout.check_start (bytes_from f (p + layout.byte_place) (k + 1))
    → found ≡ check_bytes f (p + layout.mark_length + 16 * k) → eqb word found ≡ check_good layout f p k
unfolding check_good
good-is layout f p k word found e g = rw (← add-one k, ← e, ← g)
