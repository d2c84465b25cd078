-- What the proofs of the functions cite: how a list is counted and judged, what a byte of it puts and leaves behind it, and what stands in the buffer
-- in the middle of the loop. Assumes nothing.
use Prim.Native.Nat.{ℕ, zero, suc, ◌+◌, ◌*◌, ◌/◌, ◌%◌, ◌<◌, ◌≤◌}
use mathlib.Core.Path.{◌≡◌, refl, sym, ap, ◌∙◌}
use mathlib.Core.Bool.{Bool, true, false, cond}
use mathlib.Core.List.{List, [], ◌∷◌, ◌++◌, append_assoc, append-nil}
use native.Mathlib.Decide.{dec_le}
use native.Mathlib.Nat.{lt_of_not-le}
use native.Mathlib.Numerals.{add-one}
use native.Mathlib.Omega.{arith}
use borrow.Author.Tests.{ne_eqb, lt-ltb, le-ltb, eqb-true}
use lib.Dec.{eqb}
use lib.ListN.{length, take, drop, get_or, length-append, length-drop, drop_of_length-le, take-append-drop}
use lib.Seq.{take_at, drop_at, drop-drop, drop-cons, length-take-le}
use Rattle.basis.specs.Lists.{written_over}
use Rattle.crc.specs.CheckWord.{after_byte}
use Rattle.mfm.specs.Coding.{byte_cells}
use Rattle.mfm.specs.Table.{cell_table, entry_of}
use Rattle.mfm.proofs.ByTable.{entry-is}
use Rattle.mfm.proofs.Cells.{bit-lt}
use Rattle.track_writer.specs.declared.Writer.{Writer}
use Rattle.refusals.specs.RefusedCalls.Answer.{gives, refused}
use Rattle.track_writer.specs.WriteTrack.Piece.{coded, sync_a1, sync_c2}
use Rattle.track_writer.specs.WriteTrack.{Piece, byte_of, pieces_from, pieces_of, piece_cells, packed_from, written, cell_count}
use Rattle.track_writer.specs.Calls.{judged}
use Rattle.track_writer.specs.PrivateContracts.{two_bytes, bit_before, packed_for, next, rest, pieces_for, UpToMost}

-- a test for an odd number, as a bit
pub odd_is : (x : ℕ) → cond (eqb (x % 2) 1) 1 0 ≡ x % 2
odd_is x = go (x % 2) (omega arith)
  where
    go : (r : ℕ) → r < 2 → cond (eqb r 1) 1 0 ≡ r
    go zero h = refl
    go (suc zero) h = refl
    go (suc (suc r)) h = absurd (omega arith)

-- the table has the cells of each byte after either bit
pub cells_in : {table : List ℕ} → table ≡ cell_table → (before : Bool) (byte : ℕ) → byte < 256 → entry_of table (cond before 1 0) byte ≡ byte_cells (cond before 1 0) byte
cells_in e before byte h = rw e (entry-is (cond before 1 0) byte (bit-lt before) h)

-- ---- a count that may stop early tells what the refusals ask
counted-few : (n r : ℕ) → UpToMost n r → r ≤ 8192 → r ≡ n
counted-few n r c h = go (dec_le n 8192)
  where
    go : Dec (n ≤ 8192) → r ≡ n
    go (yes l) = c.exact l
    go (no l) = absurd (omega (arith, c.more (lt_of_not-le l)))

counted-many : (n r : ℕ) → UpToMost n r → 8192 < r → 8192 < n
counted-many n r c h = go (dec_le n 8192)
  where
    go : Dec (n ≤ 8192) → 8192 < n
    go (yes l) = absurd (omega (arith, c.exact l))
    go (no l) = lt_of_not-le l

module _ (list : List ℕ) (r room : ℕ) (c : UpToMost (length (pieces_of list)) r) where
  pub too_many : 8192 < r → refused 20 0 ≡ judged (cell_count list) room
  unfolding judged cell_count
  too_many h = let l = counted-many (length (pieces_of list)) r c h in rw (lt-ltb 131072 (16 * length (pieces_of list)) (omega arith))

  bytes_are : r ≤ 8192 → (16 * length (pieces_of list) + 7) / 8 ≡ 2 * r
  bytes_are h = let e = counted-few (length (pieces_of list)) r c h in omega arith

  pub no_room : r ≤ 8192 → room < 2 * r → refused 10 (2 * r) ≡ judged (cell_count list) room
  unfolding judged cell_count
  no_room h g =
      let e = counted-few (length (pieces_of list)) r c h in
      rw (le-ltb 131072 (16 * length (pieces_of list)) (omega arith), bytes_are h, lt-ltb room (2 * r) g)

  pub in-room : r ≤ 8192 → 2 * r ≤ room → gives (16 * r) ≡ judged (cell_count list) room
  unfolding judged cell_count
  in-room h g =
      let e = counted-few (length (pieces_of list)) r c h in
      let s : 16 * length (pieces_of list) ≡ 16 * r = omega arith in
      rw (le-ltb 131072 (16 * length (pieces_of list)) (omega arith), bytes_are h, le-ltb room (2 * r) g, s)

-- ---- the pieces are counted by the bytes alone: neither the check word nor the runs change their number
pub piece_count : List ℕ → ℕ
piece_count [] = 0
piece_count (b ∷ bs) = pieces_for b + piece_count bs

clash : (b x y : ℕ) → eqb b x ≡ true → eqb b y ≡ true → (x ≡ y → ⊥) → ⊥
clash b x y p q h = h (sym (eqb-true b x p) ∙ eqb-true b y q)

-- it says nothing of the words v, so it holds whatever is counted
pieces-in : (b : ℕ) (bs : List ℕ) (v₁ v₂ v₃ v₄ c₁ c₂ : ℕ) → ((v : ℕ) (r : Bool) → length (pieces_from v r bs) ≡ piece_count bs)
    → length
    (cond (eqb b 0xF5) (sync_a1 ∷ pieces_from v₁ true bs)
    (cond (eqb b 0xF6) (sync_c2 ∷ pieces_from v₂ false bs)
    (cond (eqb b 0xF7) (coded c₁ ∷ coded c₂ ∷ pieces_from v₃ false bs) (coded b ∷ pieces_from v₄ false bs)))) ≡ pieces_for b + piece_count bs
pieces-in b bs v₁ v₂ v₃ v₄ c₁ c₂ more = go (eqb b 0xF5) (eqb b 0xF6) (eqb b 0xF7) refl refl refl
  where
    go : (x y z : Bool) → eqb b 0xF5 ≡ x → eqb b 0xF6 ≡ y → eqb b 0xF7 ≡ z
        → length
        (cond x (sync_a1 ∷ pieces_from v₁ true bs)
        (cond y (sync_c2 ∷ pieces_from v₂ false bs) (cond z (coded c₁ ∷ coded c₂ ∷ pieces_from v₃ false bs) (coded b ∷ pieces_from v₄ false bs))))
        ≡ cond z 2 1 + piece_count bs
    go true y true p q r = absurd (clash b 0xF5 0xF7 p r (λ h. absurd (omega arith)))
    go true y false p q r = omega (arith, more v₁ true)
    go false true true p q r = absurd (clash b 0xF6 0xF7 q r (λ h. absurd (omega arith)))
    go false true false p q r = omega (arith, more v₂ false)
    go false false true p q r = omega (arith, more v₃ false)
    go false false false p q r = omega (arith, more v₄ false)

pub pieces_are : (w : ℕ) (run : Bool) (list : List ℕ) → length (pieces_from w run list) ≡ piece_count list
unfolding pieces_from piece_count
pieces_are w run [] = refl
pieces_are w run (b ∷ bs) = pieces-in b bs _ _ _ _ _ _ (λ v r. pieces_are v r bs)

pub count_none : (list : List ℕ) → 0 + piece_count (drop 0 list) ≡ piece_count list
count_none list = omega arith

pub count-more : (list : List ℕ) (i count n : ℕ) → i < length list → count + piece_count (drop i list) ≡ n
    → count + pieces_for (get_or list i 0) + piece_count (drop (i + 1) list) ≡ n
unfolding piece_count
count-more list i count n h e =
    let g : piece_count (drop i list) ≡ pieces_for (get_or list i 0) + piece_count (drop (i + 1) list) = rw (add-one i, drop-cons list i 0 h) in
    omega arith

pub count-done : (list : List ℕ) (i count n : ℕ) → length list ≤ i → count + piece_count (drop i list) ≡ n → count ≡ n
unfolding piece_count
count-done list i count n h e =
    let g : piece_count (drop i list) ≡ 0 = rw (drop_of_length-le list h) in
    omega arith

pub counted : (list : List ℕ) (r : ℕ) → r ≡ piece_count list → UpToMost (length (pieces_of list)) r
counted list r e =
    let n = pieces_are 0xFFFF false list in
    record { exact = λ h. e ∙ sym n; more = λ h. omega arith }

pub counted-above : (list : List ℕ) (i r : ℕ) → 8192 < r → r + piece_count (drop i list) ≡ piece_count list → UpToMost (length (pieces_of list)) r
counted-above list i r h e =
    let n = pieces_are 0xFFFF false list in
    record { exact = λ l. absurd (omega arith); more = λ l. h }

-- ---- each piece takes two bytes
pub length-packed : (before : ℕ) (pieces : List Piece) → length (packed_from before pieces) ≡ 2 * length pieces
unfolding packed_from
length-packed before [] = refl
length-packed before (x ∷ xs) = omega (arith, length-packed (byte_of x % 2) xs)

pub length-written : (list : List ℕ) → length (written list) ≡ 2 * length (pieces_of list)
unfolding written
length-written list = length-packed _ (pieces_of list)

pub fits : (list : List ℕ) (r room : ℕ) → UpToMost (length (pieces_of list)) r → r ≤ 8192 → 2 * r ≤ room → length (written list) ≤ room
fits list r room c h g = omega (arith, counted-few (length (pieces_of list)) r c h, length-written list)

-- ---- the three parts of a buffer with bytes in its middle
module _ (c : List ℕ) (at : ℕ) (xs : List ℕ) (h : at + length xs ≤ length c) where
  front_long : length (take at c ++ xs) ≡ at + length xs
  front_long = length-append (take at c) xs ∙ ap (λ (n : ℕ). n + length xs) (length-take-le at c (omega arith))

  pub placed-take : take (at + length xs) (take at c ++ (xs ++ drop (at + length xs) c)) ≡ take at c ++ xs
  placed-take =
      rw (← append_assoc (take at c) xs (drop (at + length xs) c)) (take_at (take at c ++ xs) (drop (at + length xs) c) (at + length xs) front_long)

  pub placed-drop : drop (at + length xs) (take at c ++ (xs ++ drop (at + length xs) c)) ≡ drop (at + length xs) c
  placed-drop =
      rw (← append_assoc (take at c) xs (drop (at + length xs) c)) (drop_at (take at c ++ xs) (drop (at + length xs) c) (at + length xs) front_long)

  pub placed-long : length (take at c ++ (xs ++ drop (at + length xs) c)) ≡ length c
  placed-long =
      rw (
        ← append_assoc (take at c) xs (drop (at + length xs) c),
        length-append (take at c ++ xs) (drop (at + length xs) c),
        front_long,
        length-drop (at + length xs) c,
      ) (omega arith)

-- ---- what a byte of the list puts, arm by arm
module _ (s : Writer) (b : ℕ) where
  pub for-5 : b ≡ 0xF5 → packed_for s b ≡ two_bytes 0x4489
  unfolding packed_for
  for-5 e = rw e

  pub for-6 : b ≡ 0xF6 → packed_for s b ≡ two_bytes 0x5224
  unfolding packed_for
  for-6 e = rw e

  pub for-7 : b ≡ 0xF7 → packed_for s b ≡ two_bytes (byte_cells (bit_before s) (s.word / 256)) ++ two_bytes (byte_cells (s.word / 256 % 2) (s.word % 256))
  unfolding packed_for
  for-7 e = rw e

  pub for-other : (b ≡ 0xF5 → ⊥) → (b ≡ 0xF6 → ⊥) → (b ≡ 0xF7 → ⊥) → packed_for s b ≡ two_bytes (byte_cells (bit_before s) b)
  unfolding packed_for
  for-other h g f = rw (ne_eqb b 0xF5 h, ne_eqb b 0xF6 g, ne_eqb b 0xF7 f)

-- a byte of the list, and then the others
pub rest_more : (s : Writer) (b : ℕ) (bs : List ℕ) → rest s (b ∷ bs) ≡ packed_for s b ++ rest (next s b) bs
unfolding rest pieces_from packed_from piece_cells packed_for next
rest_more s b bs = go (eqb b 0xF5) (eqb b 0xF6) (eqb b 0xF7)
  where
    go : (x y z : Bool)
        → packed_from (bit_before s)
        (cond x (sync_a1 ∷ pieces_from (after_byte (cond s.run s.word 0xFFFF) 0xA1) true bs)
        (cond y (sync_c2 ∷ pieces_from (after_byte s.word 0xC2) false bs)
        (cond z (coded (s.word / 256) ∷ coded (s.word % 256) ∷ pieces_from (after_byte (after_byte s.word (s.word / 256)) (s.word % 256)) false bs)
        (coded b ∷ pieces_from (after_byte s.word b) false bs))))
        ≡ cond x (two_bytes 0x4489)
        (cond y (two_bytes 0x5224)
        (cond z (two_bytes (byte_cells (bit_before s) (s.word / 256)) ++ two_bytes (byte_cells (s.word / 256 % 2) (s.word % 256)))
        (two_bytes (byte_cells (bit_before s) b))))
        ++ rest
        (cond x (record { word = after_byte (cond s.run s.word 0xFFFF) 0xA1; odd = true; run = true })
        (cond y (record { word = after_byte s.word 0xC2; odd = false; run = false })
        (cond z (record { word = after_byte (after_byte s.word (s.word / 256)) (s.word % 256); odd = eqb (s.word % 256 % 2) 1; run = false })
        (record { word = after_byte s.word b; odd = eqb (b % 2) 1; run = false })))) bs
    go true y z = refl
    go false true z = refl
    go false false true = rw (odd_is (s.word % 256))
    go false false false = rw (odd_is b)

pub rest-none : (s : Writer) → rest s [] ≡ []
unfolding rest pieces_from packed_from
rest-none s = refl

pub rest_all : (list : List ℕ) → rest (record { word = 0xFFFF; odd = false; run = false }) list ≡ written list
unfolding rest written
rest_all list = refl

-- ---- the loop: after i bytes of the list, `at` bytes stand in the buffer c, which was c₀
pub record Wrote (list c₀ : List ℕ) (st : Writer) (c : List ℕ) (at i : ℕ) : Type 0 where
  pub long : length c ≡ length c₀
  pub front : take at c ++ rest st (drop i list) ≡ written list
  pub back : drop at c ≡ drop at c₀
  pub count : at + length (rest st (drop i list)) ≡ length (written list)

module _ (list c₀ : List ℕ) where
  pub wrote_none : Wrote list c₀ (record { word = 0xFFFF; odd = false; run = false }) c₀ 0 0
  wrote_none = record { long = refl; front = rest_all list; back = refl; count = rw (rest_all list) (omega arith) }

  module _ (st : Writer) (c : List ℕ) (at i : ℕ) (r : Wrote list c₀ st c at i) (h : i < length list) where
    next_up : rest st (drop i list) ≡ packed_for st (get_or list i 0) ++ rest (next st (get_or list i 0)) (drop (i + 1) list)
    next_up = rw (add-one i, drop-cons list i 0 h) (rest_more st (get_or list i 0) (drop (suc i) list))

    counted-up : at + (length (packed_for st (get_or list i 0)) + length (rest (next st (get_or list i 0)) (drop (i + 1) list))) ≡ length (written list)
    counted-up = rw (next_up, length-append (packed_for st (get_or list i 0)) (rest (next st (get_or list i 0)) (drop (i + 1) list))) at r.count

    pub wrote-fits : length (written list) ≤ length c₀ → at + length (packed_for st (get_or list i 0)) ≤ length c
    wrote-fits f = omega (arith, counted-up, r.long)

    pub wrote-more : length (written list) ≤ length c₀
        → Wrote list c₀ (next st (get_or list i 0))
        (take at c ++ (packed_for st (get_or list i 0) ++ drop (at + length (packed_for st (get_or list i 0))) c))
        (at + length (packed_for st (get_or list i 0))) (i + 1)
    wrote-more f =
        let e = packed_for st (get_or list i 0) in
        let g = wrote-fits f in
        record {
          long = placed-long c at e g ∙ r.long;
          front = rw (placed-take c at e g, append_assoc, ← next_up) r.front;
          back = placed-drop c at e g ∙ rw (← drop-drop (length e) at c, ← drop-drop (length e) at c₀) (ap (drop (length e)) r.back);
          count = omega (arith, counted-up);
        }

    pub wrote-step : (st' : Writer) (c' : List ℕ) (at' : ℕ) → length (written list) ≤ length c₀ → st' ≡ next st (get_or list i 0)
        → (at' ≡ at + length (packed_for st (get_or list i 0)))
        × (c' ≡ take at c ++ (packed_for st (get_or list i 0) ++ drop (at + length (packed_for st (get_or list i 0))) c))
        → Wrote list c₀ st' c' at' (i + 1)
    wrote-step st' c' at' f e g = rw (e, g.0, g.1) (wrote-more f)

  pub wrote-all : (st : Writer) (c : List ℕ) (at i : ℕ) → Wrote list c₀ st c at i → length list ≤ i → c ≡ written_over (written list) c₀
  wrote-all st c at i r h =
      let f : take at c ≡ written list = sym (append-nil _) ∙ (rw (drop_of_length-le list h, rest-none st) at r.front) in
      let z : at + 0 ≡ length (written list) = rw (drop_of_length-le list h, rest-none st) at r.count in
      let n : at ≡ length (written list) = omega arith in
      sym (take-append-drop at c) ∙ rw (f, r.back, n)

-- ---- one store or two for a byte of the list
module _ (s : Writer) (b : ℕ) (c : List ℕ) (at : ℕ) where
  pub once : (x : ℕ) (c' : List ℕ) → packed_for s b ≡ two_bytes x → c' ≡ take at c ++ (two_bytes x ++ drop (at + 2) c)
      → (at + 2 ≡ at + length (packed_for s b)) × (c' ≡ take at c ++ (packed_for s b ++ drop (at + length (packed_for s b)) c))
  once x c' e h = rw e (refl, h)

  pub twice : (x y : ℕ) (c₁ c₂ : List ℕ) → packed_for s b ≡ two_bytes x ++ two_bytes y → at + length (packed_for s b) ≤ length c
      → c₁ ≡ take at c ++ (two_bytes x ++ drop (at + 2) c)
      → c₂ ≡ take (at + 2) c₁ ++ (two_bytes y ++ drop (at + 2 + 2) c₁)
      → (at + 4 ≡ at + length (packed_for s b)) × (c₂ ≡ take at c ++ (packed_for s b ++ drop (at + length (packed_for s b)) c))
  twice x y c₁ c₂ e l h g =
      let r : at + 4 ≤ length c = rw e at l in
      let m : at + 2 ≤ length c = omega arith in
      let t : take (at + 2) c₁ ≡ take at c ++ two_bytes x = ap (take (at + 2)) h ∙ placed-take c at (two_bytes x) m in
      let d : drop (at + 2) c₁ ≡ drop (at + 2) c = ap (drop (at + 2)) h ∙ placed-drop c at (two_bytes x) m in
      let f : at + 2 + 2 ≡ at + 4 = omega arith in
      let d₂ : drop (at + 2 + 2) c₁ ≡ drop (at + 4) c =
      sym (drop-drop 2 (at + 2) c₁) ∙ ap (drop 2) d ∙ drop-drop 2 (at + 2) c ∙ ap (λ (n : ℕ). drop n c) f in
      rw e (refl, g ∙ rw (t, d₂) (append_assoc (take at c) (two_bytes x) (two_bytes y ++ drop (at + 4) c)))
