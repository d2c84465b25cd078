-- A one appended to packed cells. Assumes nothing.
use Prim.Native.Nat.{ℕ, suc, ◌+◌, ◌-◌, ◌*◌, ◌/◌, ◌%◌, ◌^◌, ◌<◌, ◌≤◌}
use mathlib.Core.Path.{◌≡◌, sym, ap, ◌∙◌}
use mathlib.Core.List.{List, [], ◌∷◌, ◌++◌}
use native.Mathlib.Decide.{ℕ_discrete, dec_lt}
use native.Mathlib.Omega.{arith}
use lib.Bits.{bit_or, or_shifted}
use lib.ListN.{length, get_or, set, length-append, length-set, get_or-append, get_or-eq_default}
use lib.Pow.{pow-lt}
use lib.Seq.{get_or-append_seam, set-append_left, get_or-set_same, get_or-set_other, ext_get_or}
use Rattle.basis.specs.Lists.{listed}
use Rattle.basis.proofs.Lists.{length-listed, get_d-listed}
use Rattle.cells.specs.CellsAndBytes.{word, list_cell, packed_byte, with_one}
use Rattle.cells.proofs.Words.{word_split, word-front, word_same}
use Rattle.cells.proofs.Packing.{Cells}
use Rattle.cells.proofs.Zeros.{word-zeros, cells-append, cells-one}

-- the cells q, and q with a one after its last cell, which goes into byte `full` at bit `over`
module _ (q : List ℕ) (bits : Cells q) where
  abbrev more : List ℕ
  more = q ++ (1 ∷ [])

  abbrev full : ℕ
  full = length q / 8

  abbrev over : ℕ
  over = length q % 8

  before : (i : ℕ) → i < length q → get_or more i 0 ≡ get_or q i 0
  before i h = get_or-append q (1 ∷ []) 0 i h

  after : (i : ℕ) → length q < i → get_or more i 0 ≡ get_or q i 0
  after i h =
      let l = length-append q (1 ∷ []) in
      let a : length q ≤ i = omega arith in
      let b : length more ≤ i = omega arith in
      get_or-eq_default more 0 b ∙ sym (get_or-eq_default q 0 a)

  at_one : get_or more (8 * full + over) 0 ≡ 1
  at_one = let s : 8 * full + over ≡ length q = omega arith in rw s (get_or-append_seam q 1 [] 0)

  -- the byte that it goes into: its first cells, and the rest of it before and after
  abbrev high : ℕ
  high = word (list_cell q) over (8 * full)

  byte-was : packed_byte q full ≡ high * 2 ^ (8 - over)
  unfolding packed_byte
  byte-was =
      let e : over + (8 - over) ≡ 8 = omega arith in
      let w = rw e at (word_split (list_cell q) bits over (8 - over) (8 * full)) in
      let z = word-zeros (list_cell q) (8 - over) (8 * full + over) (λ i l. get_or-eq_default q 0 (omega arith)) in
      omega (arith, w, z)

  byte-becomes : packed_byte more full ≡ high * 2 ^ (8 - over) + 2 ^ (7 - over)
  unfolding packed_byte
  byte-becomes =
      let bits' = cells-append q (1 ∷ []) bits cells-one in
      let e : over + (8 - over) ≡ 8 = omega arith in
      let w = rw e at (word_split (list_cell more) bits' over (8 - over) (8 * full)) in
      let f : suc (7 - over) ≡ 8 - over = omega arith in
      let v = rw f at (word-front (list_cell more) bits' (7 - over) (8 * full + over)) in
      let h = word_same (list_cell more) (list_cell q) over (8 * full) (8 * full) (λ i l. before (8 * full + i) (omega arith)) in
      let z = word-zeros (list_cell more) (7 - over) (8 * full + over + 1) zeros in
      w ∙ ap (λ (x : ℕ). x * 2 ^ (8 - over) + word (list_cell more) (8 - over) (8 * full + over)) h
      ∙ ap (λ (x : ℕ). high * 2 ^ (8 - over) + x) (v ∙ ap (λ (x : ℕ). x * 2 ^ (7 - over) + word (list_cell more) (7 - over) (8 * full + over + 1)) at_one ∙ omega (arith, z))
    where
      zeros : (i : ℕ) → i < 7 - over → get_or more (8 * full + over + 1 + i) 0 ≡ 0
      zeros i l = let p : length q < 8 * full + over + 1 + i = omega arith in after (8 * full + over + 1 + i) p ∙ get_or-eq_default q 0 (omega arith)

  byte-with-one : bit_or (packed_byte q full) (2 ^ (7 - over)) ≡ packed_byte more full
  byte-with-one =
      let l : 7 - over < 8 - over = omega arith in
      ap (λ (x : ℕ). bit_or x (2 ^ (7 - over))) byte-was ∙ or_shifted high (8 - over) (2 ^ (7 - over)) (pow-lt l) ∙ sym byte-becomes

  -- every other byte
  byte-without : (k : ℕ) → (k ≡ full → ⊥) → packed_byte q k ≡ packed_byte more k
  unfolding packed_byte
  byte-without k f = word_same (list_cell q) (list_cell more) 8 (8 * k) (8 * k) (λ i l. sym (same i l (dec_lt (8 * k + i) (length q))))
    where
      same : (i : ℕ) → i < 8 → Dec (8 * k + i < length q) → get_or more (8 * k + i) 0 ≡ get_or q (8 * k + i) 0
      same i l (yes p) = before (8 * k + i) p
      same i l (no p) = after (8 * k + i) (omega arith)

  set-listed : (n : ℕ) → full < n → set (listed (packed_byte q) n) full (packed_byte more full) ≡ listed (packed_byte more) n
  set-listed n b =
      ext_get_or 0 new (listed (packed_byte more) n) (long ∙ sym (length-listed (packed_byte more) n)) (λ i h. each i (omega (arith, h, long)) (ℕ_discrete i full))
    where
      front : List ℕ
      front = listed (packed_byte q) n

      new : List ℕ
      new = set front full (packed_byte more full)

      long : length new ≡ n
      long = length-set front full (packed_byte more full) ∙ length-listed (packed_byte q) n

      each : (i : ℕ) → i < n → Dec (i ≡ full) → get_or new i 0 ≡ get_or (listed (packed_byte more) n) i 0
      each i h (yes e) =
          let l : full < length front = omega (arith, length-listed (packed_byte q) n) in
          rw e (get_or-set_same front full (packed_byte more full) 0 l) ∙ ap (packed_byte more) (sym e) ∙ sym (get_d-listed (packed_byte more) 0 n i h)
      each i h (no f) =
          get_or-set_other front full i (packed_byte more full) 0 f
          ∙ get_d-listed (packed_byte q) 0 n i h ∙ byte-without i f ∙ sym (get_d-listed (packed_byte more) 0 n i h)

  -- a one put at cell p, where p is the cell after those at the front of a buffer
  pub packed-with-one : (n : ℕ) (rest : List ℕ) → length q < 8 * n
      → with_one (listed (packed_byte q) n ++ rest) (length q) ≡ listed (packed_byte (q ++ (1 ∷ []))) n ++ rest
  unfolding with_one
  packed-with-one n rest h =
      let front = listed (packed_byte q) n in
      let m = length-listed (packed_byte q) n in
      let b : full < n = omega arith in
      let l : full < length front = omega arith in
      let g : get_or (front ++ rest) full 0 ≡ packed_byte q full = get_or-append front rest 0 full l ∙ get_d-listed (packed_byte q) 0 n full b in
      ap (λ (x : ℕ). set (front ++ rest) full (bit_or x (2 ^ (7 - over)))) g
      ∙ ap (set (front ++ rest) full) byte-with-one
      ∙ set-append_left front rest full (packed_byte more full) l
      ∙ ap (λ (x : List ℕ). x ++ rest) (set-listed n b)
