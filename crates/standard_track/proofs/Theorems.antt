-- The claims of rules 17.11 to 17.14, proved (specs/Claims). The list's pieces are those of proofs/Standard; `rest` is what the buffer has behind
-- the cells. Assumes nothing.
use Prim.Native.Nat.{ℕ, ◌+◌, ◌*◌, ◌/◌, ◌%◌, ◌≤◌, ◌<◌}
use mathlib.Core.Path.{◌≡◌, refl, sym, ap, ◌∙◌}
use mathlib.Core.Bool.{Bool, true, false, cond, not}
use mathlib.Core.List.Memᴰ
use mathlib.Core.List.{List, [], ◌∷◌, ◌++◌, append-nil, Memᴰ}
use mathlib.Core.Logic.{inl, ⊎_elim, ◌↔◌}
use native.Mathlib.Nat.{div-add-mod'}
use native.Mathlib.Omega.{arith}
use borrow.Author.Tests.{le-leb, lt-leb, le-ltb, eq-eqb, ne_eqb}
use lib.Dec.{eqb, leb}
use lib.ListN.{length, replicate, length-replicate, length-append, drop}
use Rattle.basis.specs.Lists.{listed, joined, written_over}
use Rattle.basis.proofs.Lists.{get_d-listed, length-listed}
use Rattle.basis.proofs.Joined.{joined-empty, joined-one}
use Rattle.crc.specs.CheckWord.{check_word}
use Rattle.finding_list.specs.Findings.{found_by, findings_of}
use Rattle.finding_list.specs.declared.Finding.{Finding}
use Rattle.finding_rules.specs.Rules.{ext, sbd}
use Rattle.findings.specs.Calls.{findings_answer, list_after}
use Rattle.layouts.specs.Layouts.{double_density}
use Rattle.levels.specs.Levels.{levels}
use Rattle.refusals.specs.RefusedCalls.{buffer_after}
use Rattle.refusals.specs.RefusedCalls.Answer.{gives}
use Rattle.sectors.specs.Calls.{sector_of, data_judged, data_answer, data_after}
use Rattle.sectors.proofs.Calls.{track-accepted, count-accepted, index-accepted, data-accepted}
use Rattle.sector_records.specs.Sectors.{no_sector, sectors_of}
use Rattle.sector_records.specs.declared.Sector.{Sector}
use Rattle.track_writer.specs.WriteTrack.{pieces_of, packed_from, written, cell_count}
use Rattle.track_writer.specs.WriteTrack.Piece.{coded}
use Rattle.track_writer.specs.Calls.{judged, write_answer, written_after}
use Rattle.track_writer.proofs.Laws.{length-written, length-packed}
use Rattle.standard_track.specs.StandardTrack.{sector_list_at, track_list, checked, replaced, all_e5, Plain, PlainData}
use Rattle.standard_track.specs.Claims.{HasRoom, Finds, ext_finding, ext_findings, sbd_finding, check_of, NoFindings, OnlyExt, AnyData, ChosenCheck, SbdExactly, ReadsBack}
use Rattle.standard_track.proofs.Pieces.{Content, Bytes, block_at, track_pieces, pieces-long}
use Rattle.standard_track.proofs.Sectors.{good_end, record_of, IdChecks, sectors-there, read-there}
use Rattle.standard_track.proofs.Findings.{findings-there}
use Rattle.standard_track.proofs.ListPieces.{check-lt, repeated-plain, Gives, gives-append, gives-replicate, gives-joined, id_word, data_word, Ends, ends-checked, ends-chosen, gives-sector, pieces-of}

-- what a list puts onto the track, where e1 and e2 are the two bytes behind the data of each sector
abbrev content : (T H : ℕ) → (ℕ → List ℕ) → (e1 e2 : ℕ → ℕ) → Content
content T H bytes e1 e2 =
    record { track = T; side = H; c1 = λ s. id_word T H (s + 1) / 256; c2 = λ s. id_word T H (s + 1) % 256; data_of = bytes; e1 = e1; e2 = e2 }

module _ (T H : ℕ) (bytes ends : ℕ → List ℕ) (e1 e2 : ℕ → ℕ) (t : T ≤ 83) (h : H ≤ 1) (p : PlainData bytes) (small1 : (i : ℕ) → e1 i < 256)
    (small2 : (i : ℕ) → e2 i < 256) (e : (i : ℕ) → Ends (ends i) (data_word (bytes i)) (e1 i) (e2 i)) where
  abbrev C : Content
  C = content T H bytes e1 e2

  abbrev list : List ℕ
  list = track_list T H bytes ends

  in_bytes : Bytes (content T H bytes e1 e2)
  in_bytes =
      record {
        track = omega arith;
        side = omega arith;
        c1 = λ i. omega (arith, check-lt 0xFFFF (0xA1 ∷ 0xA1 ∷ 0xA1 ∷ 0xFE ∷ T ∷ H ∷ (i + 1) ∷ 2 ∷ []) (omega arith));
        c2 = λ i. omega arith;
        long = p.long;
        data_of = λ i m k. (p.plain i m k).0;
        e1 = small1;
        e2 = small2;
      }

  ids : IdChecks (content T H bytes e1 e2)
  ids s = sym (div-add-mod' (id_word T H (s + 1)) 256)

  -- the list gives the pieces
  gives_one : (i : ℕ) → i < 9 → Gives (sector_list_at T H bytes ends i) (block_at (content T H bytes e1 e2) i)
  unfolding sector_list_at block_at
  gives_one i l = gives-sector T H (i + 1) (bytes i) (ends i) (e1 i) (e2 i) (omega arith) (omega arith) (omega arith) (p.plain i l) (e i)

  gives-track : Gives (track_list T H bytes ends) (track_pieces (content T H bytes e1 e2))
  unfolding track_list track_pieces
  gives-track =
      gives-append (replicate 60 0x4E) _ (replicate 60 (coded 0x4E)) _ (gives-replicate 60 0x4E (omega arith))
      (gives-append (joined (sector_list_at T H bytes ends) 9) _ (joined (block_at C) 9) _
      (gives-joined (sector_list_at T H bytes ends) (block_at C) 9 gives_one) (gives-replicate 664 0x4E (omega arith)))

  written_is : written (track_list T H bytes ends) ≡ packed_from 0 (track_pieces (content T H bytes e1 e2))
  unfolding written
  written_is = ap (packed_from 0) (pieces-of list (track_pieces C) gives-track)

  pieces_are : length (pieces_of (track_list T H bytes ends)) ≡ 6250
  pieces_are = ap length (pieces-of list (track_pieces C) gives-track) ∙ pieces-long C in_bytes

  cells_are : cell_count (track_list T H bytes ends) ≡ 100000
  unfolding cell_count
  cells_are = ap (λ (n : ℕ). 16 * n) pieces_are

  module _ (buffer : List ℕ) (room : 12500 ≤ length buffer) where
    abbrev track : List ℕ
    track = written_after list buffer

    answered : write_answer (track_list T H bytes ends) buffer ≡ gives 100000
    unfolding judged
    answered = rw (cells_are, le-ltb (length buffer) 12500 room)

    track-is : written_after (track_list T H bytes ends) buffer ≡ packed_from 0 (track_pieces (content T H bytes e1 e2)) ++ drop 12500 buffer
    unfolding buffer_after
    track-is =
        let n : length (written list) ≡ 12500 = omega (arith, length-written list, pieces_are) in
        rw (answered, n, written_is)

    long-enough : 12500 ≤ length (written_after (track_list T H bytes ends) buffer)
    long-enough =
        rw track-is
        (omega (arith, length-append (packed_from 0 (track_pieces C)) (drop 12500 buffer), length-packed 0 (track_pieces C), pieces-long C in_bytes))

    found-are : findings_of double_density (written_after (track_list T H bytes ends) buffer) 100000 T
        ≡ found_by 4 (ext 9 T) ++ joined (λ i. found_by 14 (sbd (record_of (content T H bytes e1 e2) i))) 9
    found-are = rw track-is (findings-there C in_bytes ids (drop 12500 buffer) t h)

    sectors-are : sectors_of double_density (written_after (track_list T H bytes ends) buffer) 100000 ≡ listed (record_of (content T H bytes e1 e2)) 9
    sectors-are = rw track-is (sectors-there C in_bytes ids (drop 12500 buffer))

    nine-sectors : length (sectors_of double_density (written_after (track_list T H bytes ends) buffer) 100000) ≡ 9
    nine-sectors = ap length sectors-are ∙ length-listed (record_of C) 9

    -- the call that lists findings, into a list with room
    findings-answer : (found : List Finding) (n : ℕ) → findings_of double_density (written_after (track_list T H bytes ends) buffer) 100000 T ≡ found
        → length found ≤ n → findings_answer double_density (written_after (track_list T H bytes ends) buffer) 100000 T H n ≡ gives (length found)
    unfolding findings_answer
    findings-answer found n e fits =
        let c = nine-sectors in
        sym (track-accepted track 100000 T H _ (rw (le-ltb 83 T t, le-ltb 1 H h)) refl long-enough)
        ∙ sym (count-accepted _ _ (omega arith)) ∙ rw (e, le-ltb n (length found) fits)

    findings-listed : (found lent : List Finding) → findings_of double_density (written_after (track_list T H bytes ends) buffer) 100000 T ≡ found
        → length found ≤ length lent
        → list_after double_density (written_after (track_list T H bytes ends) buffer) 100000 T H lent ≡ written_over found lent
    unfolding buffer_after
    findings-listed found lent e fits = rw (findings-answer found (length lent) e fits, e)

    finds : (found : List Finding) → found_by 4 (ext 9 T) ++ joined (λ i. found_by 14 (sbd (record_of (content T H bytes e1 e2) i))) 9 ≡ found
        → Finds T H (track_list T H bytes ends) buffer found
    finds found e =
        let f = found-are ∙ e in
        record {
          cells = answered;
          all = f;
          answer = λ n fits. findings-answer found n f fits;
          listed = λ lent fits. findings-listed found lent f fits;
        }

    -- the call that reads out sector i, into a buffer with room
    module _ (i : ℕ) (l : i < 9) (out : List ℕ) (fits : 512 ≤ length out) where
      sector-is : sector_of double_density (written_after (track_list T H bytes ends) buffer) 100000 i ≡ record_of (content T H bytes e1 e2) i
      sector-is = rw sectors-are (get_d-listed (record_of C) no_sector 9 i l)

      judged-is : data_judged (record_of (content T H bytes e1 e2) i) (length out)
          ≡ gives (record { size = 512; good = good_end (bytes i) (e1 i) (e2 i) })
      unfolding record_of
      judged-is = sym (data-accepted (record_of C i) (length out) (λ z. absurd (omega arith)) fits)

      read_answer : data_answer double_density (written_after (track_list T H bytes ends) buffer) 100000 T H i (length out)
          ≡ gives (record { size = 512; good = good_end (bytes i) (e1 i) (e2 i) })
      unfolding data_answer
      read_answer =
          let n = nine-sectors in
          sym
          (sym judged-is ∙ ap (λ (s : Sector). data_judged s (length out)) (sym sector-is)
          ∙ index-accepted _ _ i (omega arith) ∙ count-accepted _ _ (omega arith)
          ∙ track-accepted track 100000 T H _ (rw (le-ltb 83 T t, le-ltb 1 H h)) refl long-enough)

      read-buffer : data_after double_density (written_after (track_list T H bytes ends) buffer) 100000 T H i out ≡ written_over (bytes i) out
      unfolding buffer_after double_density
      read-buffer = rw (read_answer, sector-is) (rw (track-is, read-there C in_bytes ids (drop 12500 buffer) i l))

-- ---- what EXT and SBD find
check-small : (bytes : List ℕ) → check_word (0xA1 ∷ 0xA1 ∷ 0xA1 ∷ 0xFB ∷ bytes) < 65536
check-small bytes = check-lt 0xFFFF (0xA1 ∷ 0xA1 ∷ 0xA1 ∷ 0xFB ∷ bytes) (omega arith)

check-good : (bytes : List ℕ) → good_end bytes (check_of bytes / 256) (check_of bytes % 256) ≡ true
unfolding good_end
check-good bytes = eq-eqb _ _ (sym (div-add-mod' (check_of bytes) 256))

ext-is : (T : ℕ) → found_by 4 (ext 9 T) ≡ ext_findings T
unfolding found_by levels
ext-is T = go (leb 80 T)
  where
    go : (b : Bool) → cond b (record { kind = 5; level = 2; place = 0; detail = 9 } ∷ []) [] ≡ cond b (ext_finding ∷ []) []
    go true = refl
    go false = refl

sbd-is : (C : Content) (i : ℕ) (good : Bool) → good_end (C.data_of i) (C.e1 i) (C.e2 i) ≡ good
    → found_by 14 (sbd (record_of C i)) ≡ cond good [] (sbd_finding i ∷ [])
unfolding found_by levels record_of
sbd-is C i good e = rw e (go good)
  where
    go : (b : Bool) → cond (not b) (sbd_finding i ∷ []) [] ≡ cond b [] (sbd_finding i ∷ [])
    go true = refl
    go false = refl

-- ---- F7 behind the data of every sector
module _ (T H : ℕ) (t : T ≤ 83) (h : H ≤ 1) (bytes : ℕ → List ℕ) (p : PlainData bytes) where
  abbrev high : ℕ → ℕ
  high i = check_of (bytes i) / 256

  abbrev low : ℕ → ℕ
  low i = check_of (bytes i) % 256

  ends-all : (i : ℕ) → Ends (checked i) (data_word (bytes i)) (check_of (bytes i) / 256) (check_of (bytes i) % 256)
  unfolding checked
  ends-all i = ends-checked (check_of (bytes i))

  high_small : (i : ℕ) → check_of (bytes i) / 256 < 256
  high_small i = omega (arith, check-small (bytes i))

  low_small : (i : ℕ) → check_of (bytes i) % 256 < 256
  low_small i = omega arith

  module _ (buffer : List ℕ) (room : HasRoom buffer) where
    good-finds : Finds T H (track_list T H bytes checked) buffer (ext_findings T)
    good-finds =
        let C = content T H bytes high low in
        finds T H bytes checked high low t h p high_small low_small ends-all buffer room (ext_findings T)
        (rw (joined-empty (λ i. found_by 14 (sbd (record_of C i))) 9 (λ i l. sbd-is C i true (check-good (bytes i))))
        (append-nil (found_by 4 (ext 9 T)) ∙ ext-is T))

    module _ (i : ℕ) (l : i < 9) (out : List ℕ) (fits : 512 ≤ length out) where
      good-answer : data_answer double_density (written_after (track_list T H bytes checked) buffer) 100000 T H i (length out)
          ≡ gives (record { size = 512; good = true })
      good-answer = read_answer T H bytes checked high low t h p high_small low_small ends-all buffer room i l out fits ∙ rw (check-good (bytes i))

      good-buffer : data_after double_density (written_after (track_list T H bytes checked) buffer) 100000 T H i out ≡ written_over (bytes i) out
      good-buffer = read-buffer T H bytes checked high low t h p high_small low_small ends-all buffer room i l out fits

pub any-data : AnyData
any-data T H t h bytes p buffer room = good-finds T H t h bytes p buffer room

pub reads-back : ReadsBack
reads-back T H t h bytes p buffer room i l out fits = (
  good-answer T H t h bytes p buffer room i l out fits,
  good-buffer T H t h bytes p buffer room i l out fits,
)

plain-e5 : PlainData all_e5
unfolding all_e5
plain-e5 = record { long = λ i l. length-replicate {A = ℕ} 512 0xE5; plain = λ i l k. repeated-plain 512 0xE5 (omega arith, inl (omega arith)) k }

pub no-findings : NoFindings
no-findings T H t h buffer room = rw (lt-leb 80 T (omega arith)) at (any-data T H (omega arith) h all_e5 plain-e5 buffer room)

pub only-ext : OnlyExt
only-ext T H e t h buffer room = rw (le-leb 80 T e) at (any-data T H t h all_e5 plain-e5 buffer room)

-- ---- two chosen bytes in the place of one F7
module _ (T H : ℕ) (t : T ≤ 83) (h : H ≤ 1) (bytes : ℕ → List ℕ) (p : PlainData bytes) (k a b : ℕ) (l : k < 9) (pa : Plain a) (pb : Plain b) where
  abbrev one : ℕ → ℕ
  one i = cond (eqb i k) a (check_of (bytes i) / 256)

  abbrev two : ℕ → ℕ
  two i = cond (eqb i k) b (check_of (bytes i) % 256)

  ends-but : (i : ℕ)
      → Ends (replaced k a b i) (data_word (bytes i)) (cond (eqb i k) a (check_of (bytes i) / 256)) (cond (eqb i k) b (check_of (bytes i) % 256))
  unfolding replaced
  ends-but i = go (eqb i k)
    where
      go : (x : Bool)
          → Ends (cond x (a ∷ b ∷ []) (0xF7 ∷ [])) (data_word (bytes i)) (cond x a (check_of (bytes i) / 256)) (cond x b (check_of (bytes i) % 256))
      go true = ends-chosen (data_word (bytes i)) a b pa pb
      go false = ends-checked (check_of (bytes i))

  small : (x : Bool) (u v : ℕ) → u < 256 → v < 256 → cond x u v < 256
  small true u v p q = p
  small false u v p q = q

  one-small : (i : ℕ) → cond (eqb i k) a (check_of (bytes i) / 256) < 256
  one-small i = small (eqb i k) a (check_of (bytes i) / 256) pa.0 (omega (arith, check-small (bytes i)))

  two-small : (i : ℕ) → cond (eqb i k) b (check_of (bytes i) % 256) < 256
  two-small i = small (eqb i k) b (check_of (bytes i) % 256) pb.0 (omega arith)

  others-good : (i : ℕ) → (i ≡ k → ⊥)
      → good_end (bytes i) (cond (eqb i k) a (check_of (bytes i) / 256)) (cond (eqb i k) b (check_of (bytes i) % 256)) ≡ true
  others-good i e = rw (ne_eqb i k e) (check-good (bytes i))

  this-good : good_end (bytes k) (cond (eqb k k) a (check_of (bytes k) / 256)) (cond (eqb k k) b (check_of (bytes k) % 256))
      ≡ eqb (check_of (bytes k)) (a * 256 + b)
  unfolding good_end
  this-good = rw (eq-eqb k k refl)

  chosen-finds : (buffer : List ℕ) → HasRoom buffer
      → Finds T H (track_list T H bytes (replaced k a b)) buffer (ext_findings T ++ cond (eqb (check_of (bytes k)) (a * 256 + b)) [] (sbd_finding k ∷ []))
  chosen-finds buffer room =
      let C = content T H bytes one two in
      finds T H bytes (replaced k a b) one two t h p one-small two-small ends-but buffer room _
      (rw (
        joined-one (λ i. found_by 14 (sbd (record_of C i))) 9 k l (λ i m e. sbd-is C i true (others-good i e)),
        sbd-is C k (eqb (check_of (bytes k)) (a * 256 + b)) this-good,
        ext-is T,
      ))

  no-sbd-in-ext : (x : Bool) → Memᴰ (sbd_finding k) (cond x (ext_finding ∷ []) []) → ⊥
  no-sbd-in-ext true m = let e : ◌≡◌ {A = ℕ} 15 5 = ap (λ (f : Finding). f.kind) (Memᴰ.eq_of_singleton m) in omega arith
  no-sbd-in-ext false m = Memᴰ.not-nil m

  sbd-there : Memᴰ (sbd_finding k) (ext_findings T ++ cond (eqb (check_of (bytes k)) (a * 256 + b)) [] (sbd_finding k ∷ []))
      ↔ (check_of (bytes k) ≡ a * 256 + b → ⊥)
  sbd-there = (so, then)
    where
      so : Memᴰ (sbd_finding k) (ext_findings T ++ cond (eqb (check_of (bytes k)) (a * 256 + b)) [] (sbd_finding k ∷ []))
          → check_of (bytes k) ≡ a * 256 + b → ⊥
      so m e =
          ⊎_elim (λ u. no-sbd-in-ext (leb 80 T) u)
          (λ u. Memᴰ.not-nil (rw (eq-eqb (check_of (bytes k)) (a * 256 + b) e) at u)) (Memᴰ.append_cases (ext_findings T) m)

      then : (check_of (bytes k) ≡ a * 256 + b → ⊥)
          → Memᴰ (sbd_finding k) (ext_findings T ++ cond (eqb (check_of (bytes k)) (a * 256 + b)) [] (sbd_finding k ∷ []))
      then e = rw (ne_eqb (check_of (bytes k)) (a * 256 + b) e) (Memᴰ.append_right (ext_findings T) (Memᴰ.head refl))

pub chosen-check : ChosenCheck
chosen-check T H t h bytes p k a b l pa pb buffer room = chosen-finds T H t h bytes p k a b l pa pb buffer room

pub sbd-exactly : SbdExactly
sbd-exactly T H t h bytes p k a b l pa pb buffer room =
    rw (chosen-check T H t h bytes p k a b l pa pb buffer room).all (sbd-there T H t h bytes p k a b l pa pb)
