-- The clock rule a byte at a time, and the loop that codes by a table. Assumes nothing.
use Prim.Native.Nat.{ℕ, suc, ◌+◌, ◌*◌, ◌/◌, ◌%◌, ◌<◌, ◌≤◌}
use mathlib.Core.Path.{◌≡◌, refl, sym, ap, ap₂, ◌∙◌}
use mathlib.Core.List.{List, [], ◌∷◌, ◌++◌, append_assoc, append-nil}
use native.Mathlib.Numerals.{add-one}
use native.Mathlib.Omega.{arith}
use lib.ListN.{length, get_or, take, drop, set, length-set, drop_of_length-le, take-append-drop}
use lib.Seq.{drop-cons, take-suc-set, drop-set-lt, drop-drop}
use Rattle.basis.specs.Lists.{listed, written_over}
use Rattle.basis.proofs.Lists.{length-listed}
use Rattle.cells.specs.CellsAndBytes.{bit_of, list_cell, packed_byte, packed}
use Rattle.cells.proofs.Packing.{packed-append}
use Rattle.cells.proofs.Words.{word_split, word_lt}
use Rattle.mfm.specs.Coding.{data_bits, bit_cells, encoded, byte_cells}
use Rattle.mfm.specs.PrivateContracts.{coded_by}
use Rattle.mfm.specs.Table.{entry_of}
use Rattle.mfm.proofs.Cells.{length-cells, cells_are, cells-append, last-of-byte, of-byte}

-- a byte at a time: two bytes of cells, and the rest after its lowest bit
module _ (before byte : ℕ) where
  abbrev of_byte : List ℕ
  of_byte = bit_cells before (listed (bit_of byte) 8)

  cells-of-byte : (i : ℕ) → get_or of_byte i 0 < 2
  cells-of-byte = cells_are before (listed (bit_of byte) 8) (of-byte byte)

  sixteen-cells : length of_byte ≡ 16
  sixteen-cells = omega (arith, length-cells before (listed (bit_of byte) 8), length-listed (bit_of byte) 8)

  two_bytes : packed of_byte ≡ byte_cells before byte / 256 ∷ byte_cells before byte % 256 ∷ []
  unfolding packed packed_byte byte_cells listed
  two_bytes =
      let s = word_split (list_cell of_byte) cells-of-byte 8 8 0 in
      let l = word_lt (list_cell of_byte) cells-of-byte 8 8 in
      rw sixteen-cells (ap₂ (λ (a b : ℕ). a ∷ b ∷ []) (omega (arith, s, l)) (omega (arith, s, l)))

  pub encoded-more : (bytes : List ℕ) → encoded before (byte ∷ bytes) ≡ byte_cells before byte / 256 ∷ byte_cells before byte % 256 ∷ encoded (byte % 2) bytes
  unfolding encoded data_bits
  encoded-more bytes =
      rw (cells-append before (listed (bit_of byte) 8) (data_bits bytes), last-of-byte before byte, packed-append 2 of_byte (bit_cells (byte % 2) (data_bits bytes)) sixteen-cells, two_bytes)

pub encoded-none : (before : ℕ) → encoded before [] ≡ []
unfolding encoded data_bits bit_cells packed listed
encoded-none before = refl

pub coded-by-none : (table : List ℕ) (before : ℕ) → coded_by table before [] ≡ []
unfolding coded_by
coded-by-none table before = refl

pub coded-by-more : (table : List ℕ) (before byte : ℕ) (bytes : List ℕ)
    → coded_by table before (byte ∷ bytes) ≡ entry_of table before byte / 256 ∷ entry_of table before byte % 256 ∷ coded_by table (byte % 2) bytes
unfolding coded_by
coded-by-more table before byte bytes = refl

length-coded-by : (table : List ℕ) (before : ℕ) (bytes : List ℕ) → length (coded_by table before bytes) ≡ 2 * length bytes
unfolding coded_by
length-coded-by table before [] = refl
length-coded-by table before (byte ∷ bytes) = omega (arith, length-coded-by table (byte % 2) bytes)

-- i bytes are coded by a table at the front of the buffer c, which was c₀, from the bit q₀ on; q is the bit before the rest
pub record Coded (table bytes c₀ : List ℕ) (q₀ : ℕ) (c : List ℕ) (q i : ℕ) : Type 0 where
  pub long : length c ≡ length c₀
  pub front : take (2 * i) c ++ coded_by table q (drop i bytes) ≡ coded_by table q₀ bytes
  pub back : drop (2 * i) c ≡ drop (2 * i) c₀

module _ (table bytes c₀ : List ℕ) (q₀ : ℕ) where
  pub coded_none : Coded table bytes c₀ q₀ c₀ q₀ 0
  coded_none = record { long = refl; front = refl; back = refl }

  module _ (c : List ℕ) (q i w : ℕ) (r : Coded table bytes c₀ q₀ c q i) (h : i < length bytes) (fits : 2 * length bytes ≤ length c₀) (e : w ≡ entry_of table q (get_or bytes i 0)) where
    after : List ℕ
    after = set (set c (2 * i) (w / 256)) (2 * i + 1) (w % 256)

    two : 2 * (i + 1) ≡ suc (suc (2 * i))
    two = omega arith

    first-in : 2 * i < length c
    first-in = omega (arith, r.long)

    second-in : suc (2 * i) < length (set c (2 * i) (w / 256))
    second-in = simp length-set (omega (arith, r.long))

    front-more : take (2 * (i + 1)) after ++ coded_by table (get_or bytes i 0 % 2) (drop (i + 1) bytes) ≡ coded_by table q₀ bytes
    unfolding after
    front-more =
        rw (two, add-one (2 * i), take-suc-set _ (suc (2 * i)) (w % 256) second-in, take-suc-set c (2 * i) (w / 256) first-in, append_assoc, append_assoc, e, add-one i)
        (rw (drop-cons bytes i 0 h, coded-by-more table q (get_or bytes i 0) (drop (suc i) bytes)) at r.front)

    back_more : drop (2 * (i + 1)) after ≡ drop (2 * (i + 1)) c₀
    unfolding after
    back_more =
        let l : 2 * i + 1 < 2 * (i + 1) = omega arith in
        let m : 2 * i < 2 * (i + 1) = omega arith in
        let d : 2 * (i + 1) ≡ 2 * i + 2 = omega arith in
        drop-set-lt _ _ _ _ l ∙ drop-set-lt _ c _ _ m ∙ rw (d, ← drop-drop 2 (2 * i) c, ← drop-drop 2 (2 * i) c₀) (ap (drop 2) r.back)

    pub coded-more : Coded table bytes c₀ q₀ (set (set c (2 * i) (w / 256)) (2 * i + 1) (w % 256)) (get_or bytes i 0 % 2) (i + 1)
    unfolding after
    coded-more = record { long = simp length-set r.long; front = front-more; back = back_more }

  pub coded-all : (c : List ℕ) (q i : ℕ) → Coded table bytes c₀ q₀ c q i → i ≡ length bytes → c ≡ written_over (coded_by table q₀ bytes) c₀
  coded-all c q i r e =
      let l : length bytes ≤ i = omega arith in
      let f : take (2 * i) c ≡ coded_by table q₀ bytes = sym (append-nil _) ∙ (rw (drop_of_length-le bytes l, coded-by-none table q) at r.front) in
      let n : length (coded_by table q₀ bytes) ≡ 2 * i = omega (arith, length-coded-by table q₀ bytes) in
      sym (take-append-drop (2 * i) c) ∙ rw (f, r.back, n)
