-- The sectors that are read on the standard track: their records, their data bytes, and that there are nine. Assumes nothing.
use Prim.Native.Nat.{ℕ, zero, suc, ◌+◌, ◌*◌, ◌≤◌, ◌<◌}
use mathlib.Core.Path.{◌≡◌, refl, sym, ap, ap₂, ◌∙◌}
use mathlib.Core.Bool.{Bool, true}
use mathlib.Core.List.{List, [], ◌∷◌, ◌++◌}
use native.Mathlib.Omega.{arith}
use borrow.Author.Tests.{le-leb, eq-eqb}
use lib.Dec.{eqb}
use lib.ListN.{length, get_or}
use Rattle.basis.specs.Lists.{listed, joined}
use Rattle.basis.proofs.Lists.{is-listed}
use Rattle.basis.proofs.Joined.{joined_to, joined-more}
use Rattle.basis.proofs.Bools.{fails}
use Rattle.crc.specs.CheckWord.{check_word_from, check_word}
use Rattle.layouts.specs.Layouts.{double_density}
use Rattle.mfm.specs.Coding.{byte_on}
use Rattle.sector_records.specs.Marks.{mark_of, id_mark_at, data_mark_at}
use Rattle.sector_records.specs.Sectors.{byte_from, bytes_from, check_bytes, check_good, least_data, length_of, sector_at, sectors_at, sectors_of, data_bytes}
use Rattle.sector_records.specs.declared.Sector.{Sector}
use Rattle.sector_records.proofs.Places.{within-only}
use Rattle.sector_records.proofs.Records.{record_is}
use Rattle.track_writer.specs.WriteTrack.{byte_of, packed_from}
use Rattle.track_writer.specs.WriteTrack.Piece.{coded}
use Rattle.standard_track.proofs.Round.{track_cells}
use Rattle.standard_track.proofs.Pieces.{front, back, Content, Bytes, track_pieces, in-data, in-back}
use Rattle.standard_track.proofs.Marks.{place_of, byte-in, byte-in-front, id-byte, data-byte, id-mark, data-mark, marked, id-found, data-found}

-- marks, in double density
id-is : (f : ℕ → ℕ) (p : ℕ) → id_mark_at double_density f p ≡ mark_of f 0xFC 0xFF p
unfolding id_mark_at double_density
id-is f p = refl

data_is : (f : ℕ → ℕ) (p : ℕ) → data_mark_at double_density f p ≡ mark_of f 0xF8 0xFB p
unfolding data_mark_at double_density
data_is f p = refl

-- e1 and e2 are the check bytes of a sector with these data bytes
unfoldable pub good_end : List ℕ → (e1 e2 : ℕ) → Bool
good_end bytes e1 e2 = eqb (check_word (0xA1 ∷ 0xA1 ∷ 0xA1 ∷ 0xFB ∷ bytes)) (e1 * 256 + e2)

-- the record of sector s
unfoldable pub record_of : Content → ℕ → Sector
record_of C s =
    record {
      place = place_of s;
      mark = 0xFE;
      track = C.track;
      side = C.side;
      number = s + 1;
      size_code = 2;
      id_check_good = true;
      data_place = place_of s + 704;
      data_mark = 0xFB;
      data_length = 512;
      data_check_good = good_end (C.data_of s) (C.e1 s) (C.e2 s);
      data_end = place_of s + 704 + 64 + 16 * 512 + 32;
      density = 2;
    }

-- each ID has its check bytes
abbrev pub IdChecks : Content → Type 0
IdChecks C = (s : ℕ) → check_word (0xA1 ∷ 0xA1 ∷ 0xA1 ∷ 0xFE ∷ C.track ∷ C.side ∷ (s + 1) ∷ 2 ∷ []) ≡ C.c1 s * 256 + C.c2 s

module _ (C : Content) (B : Bytes C) (ids : IdChecks C) (rest : List ℕ) where
  abbrev cells : ℕ → ℕ
  cells = track_cells (track_pieces C) rest

  -- ---- what is read of its ID
  id-byte-is : (s k byte : ℕ) → s < 9 → k < 44 → byte_of (get_or (front C.track C.side (s + 1) (C.c1 s) (C.c2 s)) (k + 16) (coded 0)) ≡ byte
      → byte_on (track_cells (track_pieces C) rest) (place_of s + 64 + 16 * k) ≡ byte
  id-byte-is s k byte h l e = byte-in-front C B rest s (k + 16) (place_of s + 64 + 16 * k) h (omega arith) (omega arith) ∙ e

  id-bytes : (s : ℕ) → s < 9 → bytes_from (track_cells (track_pieces C) rest) (place_of s + 48) 5 ≡ 0xFE ∷ C.track ∷ C.side ∷ (s + 1) ∷ 2 ∷ []
  unfolding bytes_from byte_from listed front
  id-bytes s h =
      rw (
        byte-in-front C B rest s 15 (place_of s + 48 + 16 * 0) h (omega arith) (omega arith),
        byte-in-front C B rest s 16 (place_of s + 48 + 16 * 1) h (omega arith) (omega arith),
        byte-in-front C B rest s 17 (place_of s + 48 + 16 * 2) h (omega arith) (omega arith),
        byte-in-front C B rest s 18 (place_of s + 48 + 16 * 3) h (omega arith) (omega arith),
        byte-in-front C B rest s 19 (place_of s + 48 + 16 * 4) h (omega arith) (omega arith),
      )

  id-check : (s : ℕ) → s < 9 → check_bytes (track_cells (track_pieces C) rest) (place_of s + 64 + 16 * 4) ≡ C.c1 s * 256 + C.c2 s
  unfolding check_bytes front
  id-check s h =
      rw (
        byte-in-front C B rest s 20 (place_of s + 64 + 16 * 4) h (omega arith) (omega arith),
        byte-in-front C B rest s 21 (place_of s + 64 + 16 * 4 + 16) h (omega arith) (omega arith),
      )

  id-good : (s : ℕ) → s < 9 → check_good double_density (track_cells (track_pieces C) rest) (place_of s) 4 ≡ true
  unfolding check_good check_word_from double_density
  id-good s h = rw (id-bytes s h, id-check s h) (eq-eqb _ _ (ids s))

  -- ---- what is read of its data
  data-least : (s : ℕ) → s < 9 → least_data double_density (track_cells (track_pieces C) rest) (place_of s) ≡ place_of s + 704
  unfolding double_density
  data-least s h =
      within-only (data_mark_at double_density cells) 160 784 (place_of s) (place_of s + 704)
      (record {
        from = omega arith;
        to = omega arith;
        passes = data_is cells (place_of s + 704) ∙ data-mark C B rest s h;
        before = λ r a b. fails (data_mark_at double_density cells r) (λ e. none r a b e);
      })
    where
      none : (r : ℕ) → place_of s + 160 ≤ r → r < place_of s + 704 → data_mark_at double_density cells r ≡ true → ⊥
      none r a b e =
          let l : r < 100000 = omega arith in
          let g = sym (data_is cells r) ∙ e in
          let m = marked C B rest 0xF8 0xFB r l g in
          let i = data-found C B rest r l g m in
          omega arith

  data-at : (s k : ℕ) → s < 9 → k < 512 → byte_on (track_cells (track_pieces C) rest) (place_of s + 704 + 64 + 16 * k) ≡ get_or (C.data_of s) k 0
  data-at s k h l = byte-in C B rest s (60 + k) (place_of s + 704 + 64 + 16 * k) h (omega arith) (omega arith) ∙ ap byte_of (in-data C B s k h l)

  pub data-read : (s : ℕ) → s < 9 → bytes_from (track_cells (track_pieces C) rest) (place_of s + 704 + 64) 512 ≡ C.data_of s
  unfolding bytes_from byte_from
  data-read s h =
      sym (is-listed (byte_from cells (place_of s + 704 + 64)) 0 (C.data_of s) (λ k l. sym (data-at s k h (omega (arith, B.long s h))))
      ∙ ap (listed (byte_from cells (place_of s + 704 + 64))) (B.long s h))

  with-mark : (s : ℕ) → s < 9 → bytes_from (track_cells (track_pieces C) rest) (place_of s + 704 + 48) 513 ≡ 0xFB ∷ C.data_of s
  unfolding bytes_from byte_from front
  with-mark s h =
      sym (is-listed (byte_from cells (place_of s + 704 + 48)) 0 (0xFB ∷ C.data_of s) each
      ∙ ap (λ (n : ℕ). listed (byte_from cells (place_of s + 704 + 48)) (suc n)) (B.long s h))
    where
      each : (k : ℕ) → k < length (0xFB ∷ C.data_of s) → get_or (0xFB ∷ C.data_of s) k 0 ≡ byte_on cells (place_of s + 704 + 48 + 16 * k)
      each zero l = sym (byte-in-front C B rest s 59 (place_of s + 704 + 48 + 16 * 0) h (omega arith) (omega arith))
      each (suc k) l =
          let e : place_of s + 704 + 48 + 16 * suc k ≡ place_of s + 704 + 64 + 16 * k = omega arith in
          rw e (sym (data-at s k h (omega (arith, B.long s h))))

  end-check : (s : ℕ) → s < 9 → check_bytes (track_cells (track_pieces C) rest) (place_of s + 704 + 64 + 16 * 512) ≡ C.e1 s * 256 + C.e2 s
  unfolding check_bytes back
  end-check s h =
      rw (
        byte-in C B rest s 572 (place_of s + 704 + 64 + 16 * 512) h (omega arith) (omega arith),
        byte-in C B rest s 573 (place_of s + 704 + 64 + 16 * 512 + 16) h (omega arith) (omega arith),
        in-back C B s 0 h,
        in-back C B s 1 h,
      )

  data-good : (s : ℕ) → s < 9
      → check_good double_density (track_cells (track_pieces C) rest) (place_of s + 704) 512 ≡ good_end (C.data_of s) (C.e1 s) (C.e2 s)
  unfolding check_good good_end check_word_from double_density
  data-good s h = rw (with-mark s h, end-check s h)

  -- ---- all fields together
  pub record-there : (s : ℕ) → s < 9 → sector_at double_density (track_cells (track_pieces C) rest) (place_of s) ≡ record_of C s
  unfolding record_of length_of front double_density
  record-there s h =
      let found = le-leb (place_of s + 704) (place_of s + 784) (omega arith) in
      sym
      (record_is double_density cells (place_of s) 0xFE C.track C.side (s + 1) 2 true (place_of s + 704) (place_of s + 704) 0xFB 512
      (good_end (C.data_of s) (C.e1 s) (C.e2 s)) (place_of s + 704 + 64 + 16 * 512 + 32)
      (sym (id-byte C B rest s h))
      (sym (id-byte-is s 0 C.track h (omega arith) refl))
      (sym (id-byte-is s 1 C.side h (omega arith) refl))
      (sym (id-byte-is s 2 (s + 1) h (omega arith) refl))
      (sym (id-byte-is s 3 2 h (omega arith) refl))
      (sym (id-good s h))
      (sym (data-least s h))
      (rw found)
      (rw found (sym (data-byte C B rest s h)))
      (rw found)
      (rw found (sym (data-good s h)))
      (rw found))

  -- ---- all sectors, from mark to mark
  no-sector : (q : ℕ) → q < 100000 → ((s : ℕ) → s < 9 → q ≡ place_of s → ⊥) → sectors_at double_density (track_cells (track_pieces C) rest) q ≡ []
  unfolding sectors_at
  no-sector q h none = rw (fails (id_mark_at double_density cells q) (λ e. seen e))
    where
      seen : id_mark_at double_density cells q ≡ true → ⊥
      seen e =
          let g = sym (id-is cells q) ∙ e in
          let m = marked C B rest 0xFC 0xFF q h g in
          none m.sector m.below (id-found C B rest q h g m)

  sector-here : (s : ℕ) → s < 9 → sectors_at double_density (track_cells (track_pieces C) rest) (place_of s) ≡ record_of C s ∷ []
  unfolding sectors_at
  sector-here s h = rw (id-is cells (place_of s) ∙ id-mark C B rest s h, record-there s h)

  up_to : (s : ℕ) → s ≤ 9 → joined (sectors_at double_density (track_cells (track_pieces C) rest)) (place_of s) ≡ listed (record_of C) s
  unfolding listed joined
  up_to zero h = joined_to (sectors_at double_density cells) 0 1152 (omega arith) (λ q a b. no-sector q (omega arith) (λ s l e. omega arith))
  up_to (suc s) h =
      let p = place_of s in
      joined_to (sectors_at double_density cells) (place_of s + 1) (place_of (suc s)) (omega arith)
      (λ q a b. no-sector q (omega arith) (λ t l e. between q t a b e))
      ∙ joined-more (sectors_at double_density cells) (place_of s) ∙ ap₂ (λ (x y : List Sector). x ++ y) (up_to s (omega arith))
      (sector-here s (omega arith))
    where
      between : (q t : ℕ) → place_of s + 1 ≤ q → q < place_of (suc s) → q ≡ place_of t → ⊥
      between q t a b e = omega arith

  pub sectors-there : sectors_of double_density (packed_from 0 (track_pieces C) ++ rest) 100000 ≡ listed (record_of C) 9
  unfolding sectors_of
  sectors-there =
      joined_to (sectors_at double_density cells) (place_of 9) 100000 (omega arith) (λ q a b. no-sector q (omega arith) (λ s l e. omega arith))
      ∙ up_to 9 (omega arith)

  pub read-there : (s : ℕ) → s < 9 → data_bytes 64 (track_cells (track_pieces C) rest) (record_of C s) ≡ C.data_of s
  unfolding data_bytes record_of
  read-there s h = data-read s h
