-- 6,250 pieces as a track, whose end meets its start: 4489 stands exactly where a sync of A1 was written, each piece decodes to its byte, and MTV
-- and NFA find nothing. Assumes nothing.
use Prim.Native.Nat.{ℕ, suc, ◌+◌, ◌*◌, ◌/◌, ◌%◌, ◌<◌}
use mathlib.Core.Path.{◌≡◌, refl, sym, ap, ◌∙◌}
use mathlib.Core.Bool.{Bool, true, false, cond, ◌&&◌}
use mathlib.Core.List.{List, ◌++◌}
use native.Mathlib.Decide.{ℕ_discrete}
use native.Mathlib.Nat.{div-one}
use native.Mathlib.Omega.{arith}
use borrow.Author.Tests.{eq-eqb, eqb-true}
use lib.Dec.{eqb}
use lib.ListN.{length, get_or}
use Rattle.basis.proofs.Bools.{and_left, and_right, and-false}
use Rattle.cells.specs.CellsAndBytes.{bit_of, cell_at, cell, word}
use Rattle.cells.proofs.Packing.{word-bits}
use Rattle.cells.proofs.Places.{cell-is, cell-lt, cell-round}
use Rattle.cells.proofs.Words.{word_same}
use Rattle.cell_patterns.specs.Cells.{gaps_of}
use Rattle.finding_rules.specs.Rules.{mtv, nfa}
use Rattle.layouts.specs.Layouts.{double_density}
use Rattle.mfm.specs.Coding.{clock, data_cell, byte_on}
use Rattle.sector_records.specs.Marks.{sync_at}
use Rattle.track_writer.specs.WriteTrack.{Piece, byte_of, packed_from}
use Rattle.track_writer.specs.WriteTrack.Piece.{coded, sync_a1, sync_c2}
use Rattle.standard_track.proofs.Lawful.{Lawful, sync-where}
use Rattle.standard_track.proofs.Gaps.{no-mtv, no-nfa}
use Rattle.standard_track.proofs.PieceCells.{is_sync, is_c2, cell_of, bit_at, bit-first, bit-later, piece-cell, data_of, first-clock, later-clock}

-- piece i; after the last comes the first again
abbrev pub piece_at : List Piece → ℕ → Piece
piece_at pieces i = get_or pieces (i % 6250) (coded 0)

-- what the laws ask of the pieces. The byte behind a sync has to begin with a one: else 4489 can stand seven cells after the sync too. The last
-- data bit has to be 0, which is what the first piece was coded after
pub record Round (pieces : List Piece) : Type 0 where
  pub long : length pieces ≡ 6250
  pub no_c2 : (i : ℕ) → is_c2 (piece_at pieces i) ≡ false
  pub bytes : (i : ℕ) → byte_of (piece_at pieces i) < 256
  pub high : (i : ℕ) → is_sync (piece_at pieces i) ≡ true → bit_of (byte_of (piece_at pieces (i + 1))) 0 ≡ 1
  pub closed : byte_of (get_or pieces 6249 (coded 0)) % 2 ≡ 0

sync-is : (x : Piece) → is_sync x ≡ true → x ≡ sync_a1
sync-is (coded byte) e = let z : ◌≡◌ {A = ℕ} 0 1 = cc in absurd (omega arith)
sync-is sync_a1 e = refl
sync-is sync_c2 e = let z : ◌≡◌ {A = ℕ} 0 1 = cc in absurd (omega arith)

lowest-bit : (y : ℕ) → bit_of y 7 ≡ y % 2
lowest-bit y = rw (div-one y)

-- the cells of the track; `rest` are bytes behind it
abbrev pub track_cells : List Piece → List ℕ → ℕ → ℕ
track_cells pieces rest = cell (packed_from 0 pieces ++ rest) 100000

-- its data bits, and before which of them the clock is left out
abbrev pub bits_of : List Piece → ℕ → ℕ
bits_of pieces j = bit_of (byte_of (piece_at pieces (j / 8))) (j % 8)

abbrev pub misses_at : List Piece → ℕ → Bool
misses_at pieces j = is_sync (piece_at pieces (j / 8)) && eqb (j % 8) 5

module _ (pieces : List Piece) (rest : List ℕ) (R : Round pieces) where
  pub on-track : (i j : ℕ) → j < 16 → track_cells pieces rest (16 * i + j) ≡ cell_of (bit_at 0 pieces (i % 6250)) (piece_at pieces i) j
  on-track i j h =
      let e : (16 * i + j) % 100000 ≡ 16 * (i % 6250) + j = omega arith in
      cell-is (packed_from 0 pieces ++ rest) 100000 (16 * i + j) (omega arith)
      ∙ ap (cell_at (packed_from 0 pieces ++ rest)) e ∙ piece-cell 0 pieces rest (i % 6250) (omega (arith, R.long)) j h

  -- a piece was coded after the last bit of the one before it, also the first
  bit-before : (i : ℕ) → bit_at 0 pieces ((i + 1) % 6250) ≡ bit_of (byte_of (piece_at pieces i)) 7
  bit-before i = go (ℕ_discrete (i % 6250) 6249) ∙ sym (lowest-bit (byte_of (piece_at pieces i)))
    where
      go : Dec (i % 6250 ≡ 6249) → bit_at 0 pieces ((i + 1) % 6250) ≡ byte_of (piece_at pieces i) % 2
      go (yes e) =
          let s : (i + 1) % 6250 ≡ 0 = omega arith in
          rw (s, e) (bit-first 0 pieces ∙ sym R.closed)
      go (no e) =
          let s : (i + 1) % 6250 ≡ suc (i % 6250) = omega arith in
          rw s (bit-later 0 pieces (i % 6250) (omega (arith, R.long)))

  clock-first : (i : ℕ)
      → track_cells pieces rest (16 * (i + 1)) ≡ clock (bit_of (byte_of (piece_at pieces i)) 7) (bit_of (byte_of (piece_at pieces (i + 1))) 0)
  clock-first i =
      let z : 16 * (i + 1) + 0 ≡ 16 * (i + 1) = omega arith in
      ap (track_cells pieces rest) (sym z) ∙ on-track (i + 1) 0 (omega arith) ∙ first-clock (bit_at 0 pieces ((i + 1) % 6250)) (piece_at pieces (i + 1))
      ∙ ap (λ (b : ℕ). clock b (bit_of (byte_of (piece_at pieces (i + 1))) 0)) (bit-before i)

  clock-later : (i k : ℕ) → k < 7
      → track_cells pieces rest (16 * i + 2 * suc k)
      ≡ cond (is_sync (piece_at pieces i) && eqb (suc k) 5) 0 (clock (bit_of (byte_of (piece_at pieces i)) k) (bit_of (byte_of (piece_at pieces i)) (suc k)))
  clock-later i k h = on-track i (2 * suc k) (omega arith) ∙ later-clock (bit_at 0 pieces (i % 6250)) (piece_at pieces i) k (R.no_c2 i) h

  data-cell : (j : ℕ) → track_cells pieces rest (2 * j + 1) ≡ bits_of pieces j
  data-cell j =
      let e : 2 * j + 1 ≡ 16 * (j / 8) + (2 * (j % 8) + 1) = omega arith in
      ap (track_cells pieces rest) e ∙ on-track (j / 8) (2 * (j % 8) + 1) (omega arith) ∙ data_of (bit_at 0 pieces (j / 8 % 6250))
      (piece_at pieces (j / 8)) (j % 8) (omega arith)

  clock_cell : (j : ℕ) → track_cells pieces rest (2 * (j + 1)) ≡ cond (misses_at pieces (j + 1)) 0 (clock (bits_of pieces j) (bits_of pieces (j + 1)))
  clock_cell j = go (ℕ_discrete (j % 8) 7)
    where
      go : Dec (j % 8 ≡ 7) → track_cells pieces rest (2 * (j + 1)) ≡ cond (misses_at pieces (j + 1)) 0 (clock (bits_of pieces j) (bits_of pieces (j + 1)))
      go (yes e) =
          let a : 2 * (j + 1) ≡ 16 * (j / 8 + 1) = omega arith in
          let b : (j + 1) / 8 ≡ j / 8 + 1 = omega arith in
          let c : (j + 1) % 8 ≡ 0 = omega arith in
          rw (a, b, c, e, and-false (is_sync (piece_at pieces (j / 8 + 1)))) (clock-first (j / 8))
      go (no e) =
          let a : 2 * (j + 1) ≡ 16 * (j / 8) + 2 * suc (j % 8) = omega arith in
          let b : (j + 1) / 8 ≡ j / 8 = omega arith in
          let c : (j + 1) % 8 ≡ suc (j % 8) = omega arith in
          rw (a, b, c) (clock-later (j / 8) (j % 8) (omega arith))

  -- a clock is left out only before bit 5 of a sync of A1
  misses : (j : ℕ) → misses_at pieces j ≡ true → (is_sync (piece_at pieces (j / 8)) ≡ true) × (j % 8 ≡ 5)
  misses j e =
      (and_left (is_sync (piece_at pieces (j / 8))) (eqb (j % 8) 5) e, eqb-true (j % 8) 5 (and_right (is_sync (piece_at pieces (j / 8))) (eqb (j % 8) 5) e))

  -- the bits of that sync
  bit_in : (j i r : ℕ) → is_sync (piece_at pieces i) ≡ true → j / 8 ≡ i → j % 8 ≡ r → bits_of pieces j ≡ bit_of 0xA1 r
  bit_in j i r s e g = rw (e, g) (ap (λ (x : Piece). bit_of (byte_of x) r) (sync-is (piece_at pieces i) s))

  pub lawful : Lawful (track_cells pieces rest) (bits_of pieces) (misses_at pieces)
  lawful =
      record {
        cells = cell-lt (packed_from 0 pieces ++ rest) 100000;
        bits = λ j. omega arith;
        data-cell = data-cell;
        clock_cell = clock_cell;
        missing_two_on = λ j e. (let s = misses (j + 2) e in let t = s.1 in bit_in j ((j + 2) / 8) 3 s.0 (omega arith) (omega arith));
        zero_after = λ j e. (let s = misses j e in let t = s.1 in bit_in (j + 1) (j / 8) 6 s.0 (omega arith) (omega arith));
        one_after = λ j e. after j (misses j e);
        once = λ j e. (let s = misses j e in let t = s.1 in only j (omega arith));
      }
    where
      after : (j : ℕ) → (is_sync (piece_at pieces (j / 8)) ≡ true) × (j % 8 ≡ 5) → bits_of pieces (j + 3) ≡ 1
      after j s =
          let t = s.1 in
          let a : (j + 3) / 8 ≡ j / 8 + 1 = omega arith in
          let b : (j + 3) % 8 ≡ 0 = omega arith in
          rw (a, b) (R.high (j / 8) s.0)

      only : (j : ℕ) → (j + 1) % 8 ≡ 6 → misses_at pieces (j + 1) ≡ false
      only j e = rw (e, and-false (is_sync (piece_at pieces ((j + 1) / 8))))

  -- 4489 stands at the syncs of A1 and nowhere else
  pub sync-only : (q : ℕ) → sync_at (track_cells pieces rest) q ≡ true → (q % 16 ≡ 0) × (is_sync (piece_at pieces (q / 16)) ≡ true)
  sync-only q e =
      let w =
      sync-where (track_cells pieces rest) (bits_of pieces) (misses_at pieces) lawful q (eqb-true (word (track_cells pieces rest) 16 q) 0x4489 e) in
      let even = w.0 in
      let s = misses (q / 2 + 5) w.1 in
      let five = s.1 in
      let a : (q / 2 + 5) / 8 ≡ q / 16 = omega arith in
      (omega arith, rw a at s.0)

  pub sync-there : (i : ℕ) → is_sync (piece_at pieces i) ≡ true → sync_at (track_cells pieces rest) (16 * i) ≡ true
  unfolding word
  sync-there i e =
      eq-eqb (word (track_cells pieces rest) 16 (16 * i)) 0x4489
      (word_same (track_cells pieces rest) (cell_of 0 sync_a1) 16 (16 * i) 0 (λ j h. one j h))
    where
      one : (j : ℕ) → j < 16 → track_cells pieces rest (16 * i + j) ≡ cell_of 0 sync_a1 (0 + j)
      one j h =
          let z : 0 + j ≡ j = omega arith in
          on-track i j h ∙ ap (λ (x : Piece). cell_of (bit_at 0 pieces (i % 6250)) x j) (sync-is (piece_at pieces i) e) ∙ ap (cell_of 0 sync_a1) (sym z)

  -- what the sixteen cells of a piece decode to
  pub byte-there : (i : ℕ) → byte_on (track_cells pieces rest) (16 * i) ≡ byte_of (piece_at pieces i)
  unfolding byte_on
  byte-there i =
      word_same (data_cell (track_cells pieces rest) (16 * i)) (bit_of (byte_of (piece_at pieces i))) 8 0 0 (λ k h. one k h) ∙ word-bits
      (byte_of (piece_at pieces i)) (R.bytes i)
    where
      one : (k : ℕ) → k < 8 → track_cells pieces rest (16 * i + (2 * (0 + k) + 1)) ≡ bit_of (byte_of (piece_at pieces i)) (0 + k)
      one k h =
          let z : 0 + k ≡ k = omega arith in
          rw z (on-track i (2 * k + 1) (omega arith) ∙ data_of (bit_at 0 pieces (i % 6250)) (piece_at pieces i) k h)

  pub round-mtv : (mtv (gaps_of double_density (track_cells pieces rest) 100000)).holds ≡ false
  round-mtv =
      no-mtv (track_cells pieces rest) (bits_of pieces) (misses_at pieces) lawful 100000 (omega arith) (cell-round (packed_from 0 pieces ++ rest) 100000)

  pub round-nfa : (nfa (gaps_of double_density (track_cells pieces rest) 100000)).holds ≡ false
  round-nfa =
      no-nfa (track_cells pieces rest) (bits_of pieces) (misses_at pieces) lawful 100000 (omega arith) (cell-round (packed_from 0 pieces ++ rest) 100000)
