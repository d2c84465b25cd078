-- Where the marks of the standard track stand, that there are no others, and what its pieces decode to. Assumes nothing.
use Prim.Native.Nat.{ℕ, ◌+◌, ◌*◌, ◌/◌, ◌≤◌, ◌<◌}
use mathlib.Core.Path.{◌≡◌, refl, sym, ap, ◌∙◌}
use mathlib.Core.Bool.{true, false, ◌&&◌}
use mathlib.Core.List.{List}
use mathlib.Core.Logic.{◌⊎◌, inl, inr, ⊎_elim}
use native.Mathlib.Omega.{arith}
use lib.Dec.{leb}
use lib.ListN.{get_or}
use Rattle.basis.proofs.Bools.{and_left, and_right, never_both}
use Rattle.mfm.specs.Coding.{byte_on}
use Rattle.sector_records.specs.Marks.{sync_at, mark_at, mark_byte, mark_of}
use Rattle.sector_records.proofs.Marks.{mark-of}
use Rattle.track_writer.specs.WriteTrack.{byte_of}
use Rattle.track_writer.specs.WriteTrack.Piece.{coded}
use Rattle.standard_track.proofs.PieceCells.{is_sync}
use Rattle.standard_track.proofs.Round.{Round, track_cells, sync-only, sync-there, byte-there}
use Rattle.standard_track.proofs.Pieces.{front, SyncPlace, Content, Bytes, block_at, track_pieces, piece-at, in-front, syncs-in, standard-round}

-- where the ID mark of sector s stands; its data mark stands 704 cells later
abbrev pub place_of : ℕ → ℕ
place_of s = 1152 + 9824 * s

-- three syncs that follow each other are those of one mark
starts : (k : ℕ) → SyncPlace k → SyncPlace (k + 1) → SyncPlace (k + 2) → (k ≡ 12) ⊎ (k ≡ 56)
starts k (inl a) (inl b) (inl c) = inl (omega (arith, a.0, c.1))
starts k (inl a) (inl b) (inr c) = absurd (omega (arith, a.1, c.0))
starts k (inl a) (inr b) c = absurd (omega (arith, a.1, b.0))
starts k (inr a) (inl b) c = absurd (omega (arith, a.0, b.1))
starts k (inr a) (inr b) (inl c) = absurd (omega (arith, a.0, c.1))
starts k (inr a) (inr b) (inr c) = inr (omega (arith, a.0, c.1))

place-high : (k : ℕ) → SyncPlace k → k ≤ 58
place-high k (inl h) = omega (arith, h.1)
place-high k (inr h) = h.1

-- blocks do not overlap
pub same-sector : (s t k l : ℕ) → 614 * s + k ≡ 614 * t + l → k < 614 → l < 614 → s ≡ t
same-sector s t k l e h g =
    let a : (614 * s + k) / 614 ≡ s = omega arith in
    let b : (614 * t + l) / 614 ≡ t = omega arith in
    sym a ∙ ap (λ (x : ℕ). x / 614) e ∙ b

module _ (C : Content) (B : Bytes C) (rest : List ℕ) where
  abbrev cells : ℕ → ℕ
  cells = track_cells (track_pieces C) rest

  R : Round (track_pieces C)
  R = standard-round C B

  -- what piece k of sector s decodes to
  pub byte-in : (s k q : ℕ) → s < 9 → k < 614 → q ≡ 16 * (60 + (614 * s + k))
      → byte_on (track_cells (track_pieces C) rest) q ≡ byte_of (get_or (block_at C s) k (coded 0))
  byte-in s k q h l e =
      ap (byte_on cells) e ∙ byte-there (track_pieces C) rest R (60 + (614 * s + k)) ∙ ap byte_of (piece-at C B s k (60 + (614 * s + k)) h l refl)

  pub byte-in-front : (s k q : ℕ) → s < 9 → k < 60 → q ≡ 16 * (60 + (614 * s + k))
      → byte_on (track_cells (track_pieces C) rest) q ≡ byte_of (get_or (front C.track C.side (s + 1) (C.c1 s) (C.c2 s)) k (coded 0))
  byte-in-front s k q h l e = byte-in s k q h (omega arith) e ∙ ap byte_of (in-front C B s k l)

  sync-in : (s k q : ℕ) → s < 9 → k < 60 → q ≡ 16 * (60 + (614 * s + k))
      → is_sync (get_or (front C.track C.side (s + 1) (C.c1 s) (C.c2 s)) k (coded 0)) ≡ true
      → sync_at (track_cells (track_pieces C) rest) q ≡ true
  sync-in s k q h l e g =
      ap (sync_at cells) e
      ∙ sync-there (track_pieces C) rest R (60 + (614 * s + k))
      (ap is_sync (piece-at C B s k (60 + (614 * s + k)) h (omega arith) refl ∙ in-front C B s k l) ∙ g)

  -- both marks of a sector are there
  id-mark-at : (s : ℕ) → s < 9 → mark_at (track_cells (track_pieces C) rest) (place_of s) ≡ true
  unfolding mark_at front
  id-mark-at s h =
      rw (
        sync-in s 12 (place_of s) h (omega arith) (omega arith) refl,
        sync-in s 13 (place_of s + 16) h (omega arith) (omega arith) refl,
        sync-in s 14 (place_of s + 32) h (omega arith) (omega arith) refl,
      )

  data-mark-at : (s : ℕ) → s < 9 → mark_at (track_cells (track_pieces C) rest) (place_of s + 704) ≡ true
  unfolding mark_at front
  data-mark-at s h =
      rw (
        sync-in s 56 (place_of s + 704) h (omega arith) (omega arith) refl,
        sync-in s 57 (place_of s + 704 + 16) h (omega arith) (omega arith) refl,
        sync-in s 58 (place_of s + 704 + 32) h (omega arith) (omega arith) refl,
      )

  pub id-byte : (s : ℕ) → s < 9 → mark_byte (track_cells (track_pieces C) rest) (place_of s) ≡ 0xFE
  unfolding front
  id-byte s h = byte-in-front s 15 (place_of s + 48) h (omega arith) (omega arith)

  pub data-byte : (s : ℕ) → s < 9 → mark_byte (track_cells (track_pieces C) rest) (place_of s + 704) ≡ 0xFB
  unfolding front
  data-byte s h = byte-in-front s 59 (place_of s + 704 + 48) h (omega arith) (omega arith)

  pub id-mark : (s : ℕ) → s < 9 → mark_of (track_cells (track_pieces C) rest) 0xFC 0xFF (place_of s) ≡ true
  id-mark s h = mark-of cells 0xFC 0xFF (place_of s) true (id-mark-at s h) (rw (id-byte s h))

  pub data-mark : (s : ℕ) → s < 9 → mark_of (track_cells (track_pieces C) rest) 0xF8 0xFB (place_of s + 704) ≡ true
  data-mark s h = mark-of cells 0xF8 0xFB (place_of s + 704) true (data-mark-at s h) (rw (data-byte s h))

  no-data-mark : (s : ℕ) → s < 9 → mark_of (track_cells (track_pieces C) rest) 0xF8 0xFB (place_of s) ≡ false
  no-data-mark s h = mark-of cells 0xF8 0xFB (place_of s) false (id-mark-at s h) (rw (id-byte s h))

  no-id-mark : (s : ℕ) → s < 9 → mark_of (track_cells (track_pieces C) rest) 0xFC 0xFF (place_of s + 704) ≡ false
  no-id-mark s h = mark-of cells 0xFC 0xFF (place_of s + 704) false (data-mark-at s h) (rw (data-byte s h))

  -- a sync at q belongs to a sector
  pub record SyncIn (q : ℕ) : Type 0 where
    pub sector : ℕ
    pub offset : ℕ
    pub below : sector < 9
    pub is : q ≡ 16 * (60 + (614 * sector + offset))
    pub place : SyncPlace offset

  pub sync-found : (q : ℕ) → q < 100000 → sync_at (track_cells (track_pieces C) rest) q ≡ true → SyncIn q
  sync-found q h e =
      let w = sync-only (track_pieces C) rest R q e in
      let s = syncs-in C B (q / 16) w.1 in
      let a = w.0 in
      let b = s.is in
      record { sector = s.sector; offset = s.offset; below = s.below; is = omega arith; place = s.place }

  sync-low : (q : ℕ) → SyncIn q → q ≤ 80480
  sync-low q a = let k = place-high a.offset a.place in omega (arith, a.below, a.is)

  -- and so does a mark
  pub record MarkIn (q : ℕ) : Type 0 where
    pub sector : ℕ
    pub below : sector < 9
    pub is : (q ≡ place_of sector) ⊎ (q ≡ place_of sector + 704)

  mark-found : (q : ℕ) → q < 100000 → mark_at (track_cells (track_pieces C) rest) q ≡ true → MarkIn q
  unfolding mark_at
  mark-found q h e =
      let x = sync_at cells q in
      let y = sync_at cells (q + 16) in
      let z = sync_at cells (q + 32) in
      let r = and_right x (y && z) e in
      let a = sync-found q h (and_left x (y && z) e) in
      let l = sync-low q a in
      go a (sync-found (q + 16) (omega arith) (and_left y z r)) (sync-found (q + 32) (omega arith) (and_right y z r))
    where
      go : SyncIn q → SyncIn (q + 16) → SyncIn (q + 32) → MarkIn q
      go a b c =
          let ai = a.is in
          let bi = b.is in
          let ci = c.is in
          let ak = place-high a.offset a.place in
          let bk = place-high b.offset b.place in
          let ck = place-high c.offset c.place in
          let s1 : a.sector ≡ b.sector =
          same-sector a.sector b.sector (a.offset + 1) b.offset (omega arith) (omega arith) (omega arith) in
          let s2 : a.sector ≡ c.sector =
          same-sector a.sector c.sector (a.offset + 2) c.offset (omega arith) (omega arith) (omega arith) in
          let e1 : b.offset ≡ a.offset + 1 = omega arith in
          let e2 : c.offset ≡ a.offset + 2 = omega arith in
          record {
            sector = a.sector;
            below = a.below;
            is = ⊎_elim (λ k. inl (omega arith)) (λ k. inr (omega arith)) (starts a.offset a.place (rw e1 at b.place) (rw e2 at c.place));
          }

  pub id-found : (q : ℕ) → q < 100000 → mark_of (track_cells (track_pieces C) rest) 0xFC 0xFF q ≡ true → (m : MarkIn q) → q ≡ place_of m.sector
  id-found q h e m =
      ⊎_elim (λ u. u) (λ u. absurd (never_both (mark_of cells 0xFC 0xFF q) e (ap (mark_of cells 0xFC 0xFF) u ∙ no-id-mark m.sector m.below)))
      m.is

  pub data-found : (q : ℕ) → q < 100000 → mark_of (track_cells (track_pieces C) rest) 0xF8 0xFB q ≡ true → (m : MarkIn q) → q ≡ place_of m.sector + 704
  data-found q h e m =
      ⊎_elim (λ u. absurd (never_both (mark_of cells 0xF8 0xFB q) e (ap (mark_of cells 0xF8 0xFB) u ∙ no-data-mark m.sector m.below))) (λ u. u)
      m.is

  pub marked : (low high q : ℕ) → q < 100000 → mark_of (track_cells (track_pieces C) rest) low high q ≡ true → MarkIn q
  unfolding mark_of
  marked low high q h e = mark-found q h (and_left (mark_at cells q) (leb low (mark_byte cells q) && leb (mark_byte cells q) high) e)
