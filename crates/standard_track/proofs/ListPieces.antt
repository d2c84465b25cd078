-- From the list of the standard track to its pieces, part by part. Assumes nothing.
use Prim.Native.Nat.{ℕ, zero, suc, ◌/◌, ◌%◌, ◌^◌, ◌<◌}
use mathlib.Core.Path.{◌≡◌, refl, sym, ap, ◌∙◌}
use mathlib.Core.Bool.{Bool, true, false}
use mathlib.Core.List.{List, [], ◌∷◌, ◌++◌, map, append_assoc, append-nil}
use mathlib.Core.Logic.{inl, inr, ⊎_elim}
use native.Mathlib.Omega.{arith}
use lib.ListN.{get_or, replicate}
use Rattle.basis.specs.Lists.{joined}
use Rattle.crc.specs.CheckWord.{after_bit, after_bits, after_byte, check_word_from, check_word}
use Rattle.crc.proofs.Linear.{bit-lt}
use Rattle.track_writer.specs.WriteTrack.{Piece, pieces_from, pieces_of}
use Rattle.track_writer.specs.WriteTrack.Piece.{coded, sync_a1}
use Rattle.track_writer.proofs.PlainLists.{Ordinary, one-coded, all_coded}
use Rattle.standard_track.specs.StandardTrack.{sector_list, Plain}
use Rattle.standard_track.proofs.Pieces.{front, back, block}

-- check words are below 65,536
bits-lt : (k w byte : ℕ) → w < 65536 → after_bits k w byte < 65536
unfolding after_bits
bits-lt zero w byte h = h
bits-lt (suc k) w byte h = bits-lt k (after_bit w (byte / 2 ^ k % 2)) byte (bit-lt w (byte / 2 ^ k % 2))

pub check-lt : (w : ℕ) (bytes : List ℕ) → w < 65536 → check_word_from w bytes < 65536
unfolding check_word_from after_byte
check-lt w [] h = h
check-lt w (b ∷ bs) h = check-lt (after_byte w b) bs (bits-lt 8 w b h)

-- plain bytes are coded
ordinary : (byte : ℕ) → Plain byte → Ordinary byte
ordinary byte p = (
  λ e. ⊎_elim (λ h. omega arith) (λ h. omega arith) p.1,
  λ e. ⊎_elim (λ h. omega arith) (λ h. omega arith) p.1,
  λ e. ⊎_elim (λ h. omega arith) (λ h. omega arith) p.1,
)

pub plain-one : (byte : ℕ) → Plain byte → (w : ℕ) (run : Bool) (rest : List ℕ)
    → pieces_from w run (byte ∷ rest) ≡ coded byte ∷ pieces_from (after_byte w byte) false rest
plain-one byte p w run rest = one-coded byte (ordinary byte p) w run rest

pub plain-bytes : (bytes : List ℕ) → ((i : ℕ) → Plain (get_or bytes i 0)) → (w : ℕ) (rest : List ℕ)
    → pieces_from w false (bytes ++ rest) ≡ map coded bytes ++ pieces_from (check_word_from w bytes) false rest
plain-bytes bytes p w rest = all_coded bytes (λ i. ordinary (get_or bytes i 0) (p i)) w rest

-- a part of a list that gives the same pieces wherever it stands, as long as no F5 comes before it. `after` is what it makes of the check word
pub record Gives (list : List ℕ) (pieces : List Piece) : Type 0 where
  pub after : ℕ → ℕ
  pub is : (w : ℕ) (rest : List ℕ) → pieces_from w false (list ++ rest) ≡ pieces ++ pieces_from (after w) false rest

pub gives_none : Gives [] []
gives_none = record { after = λ w. w; is = λ w rest. refl }

pub gives-bytes : (bytes : List ℕ) → ((i : ℕ) → Plain (get_or bytes i 0)) → Gives bytes (map coded bytes)
gives-bytes bytes p = record { after = λ w. check_word_from w bytes; is = plain-bytes bytes p }

pub gives-append : (xs ys : List ℕ) (ps qs : List Piece) → Gives xs ps → Gives ys qs → Gives (xs ++ ys) (ps ++ qs)
gives-append xs ys ps qs f g =
    record {
      after = λ w. g.after (f.after w);
      is =
          λ w rest. rw (append_assoc xs ys rest)
          (f.is w (ys ++ rest) ∙ rw (g.is (f.after w) rest) (sym (append_assoc ps qs (pieces_from (g.after (f.after w)) false rest))));
    }

repeated : (n byte : ℕ) → map coded (replicate n byte) ≡ replicate n (coded byte)
repeated zero byte = refl
repeated (suc n) byte = ap (λ (l : List Piece). coded byte ∷ l) (repeated n byte)

plain-zero : Plain 0
plain-zero = (omega arith, inl (omega arith))

pub repeated-plain : (n byte : ℕ) → Plain byte → (i : ℕ) → Plain (get_or (replicate n byte) i 0)
repeated-plain zero byte p i = plain-zero
repeated-plain (suc n) byte p zero = p
repeated-plain (suc n) byte p (suc i) = repeated-plain n byte p i

pub gives-replicate : (n byte : ℕ) → byte < 0xF5 → Gives (replicate n byte) (replicate n (coded byte))
gives-replicate n byte h = rw (← repeated n byte) (gives-bytes (replicate n byte) (repeated-plain n byte (omega arith, inl h)))

pub gives-joined : (g : ℕ → List ℕ) (h : ℕ → List Piece) (n : ℕ) → ((i : ℕ) → i < n → Gives (g i) (h i)) → Gives (joined g n) (joined h n)
unfolding joined
gives-joined g h zero e = gives_none
gives-joined g h (suc n) e = gives-append (joined g n) (g n) (joined h n) (h n) (gives-joined g h n (λ i l. e i (omega arith))) (e n (omega arith))

-- the first F5 of a run, a later one, and F7
sync-new : (w : ℕ) (rest : List ℕ) → pieces_from w false (0xF5 ∷ rest) ≡ sync_a1 ∷ pieces_from (after_byte 0xFFFF 0xA1) true rest
unfolding pieces_from
sync-new w rest = refl

sync-on : (w : ℕ) (rest : List ℕ) → pieces_from w true (0xF5 ∷ rest) ≡ sync_a1 ∷ pieces_from (after_byte w 0xA1) true rest
unfolding pieces_from
sync-on w rest = refl

check-two : (w : ℕ) (rest : List ℕ)
    → pieces_from w false (0xF7 ∷ rest) ≡ coded (w / 256) ∷ coded (w % 256) ∷ pieces_from (after_byte (after_byte w (w / 256)) (w % 256)) false rest
unfolding pieces_from
check-two w rest = refl

low-plain : (byte : ℕ) → byte < 0xF5 → Plain byte
low-plain byte h = (omega arith, inl h)

high-plain : (byte : ℕ) → 0xF7 < byte → byte < 256 → Plain byte
high-plain byte h l = (l, inr h)

-- ---- the ID of a sector
abbrev pub id_word : (T H number : ℕ) → ℕ
id_word T H number = check_word (0xA1 ∷ 0xA1 ∷ 0xA1 ∷ 0xFE ∷ T ∷ H ∷ number ∷ 2 ∷ [])

gives-id : (T H number : ℕ) → T < 0xF5 → H < 0xF5 → number < 0xF5
    → Gives (0xF5 ∷ 0xF5 ∷ 0xF5 ∷ 0xFE ∷ T ∷ H ∷ number ∷ 2 ∷ 0xF7 ∷ [])
    (sync_a1 ∷ sync_a1 ∷ sync_a1 ∷ coded 0xFE ∷ coded T ∷ coded H ∷ coded number ∷ coded 2 ∷ coded (id_word T H number / 256) ∷ coded (id_word T H number % 256) ∷ [])
unfolding check_word_from
gives-id T H number t h n =
    record {
      after = λ w. after_byte (after_byte (id_word T H number) (id_word T H number / 256)) (id_word T H number % 256);
      is = λ w rest. steps w rest;
    }
  where
    steps : (w : ℕ) (rest : List ℕ)
        → pieces_from w false (0xF5 ∷ 0xF5 ∷ 0xF5 ∷ 0xFE ∷ T ∷ H ∷ number ∷ 2 ∷ 0xF7 ∷ rest)
        ≡ sync_a1 ∷ sync_a1 ∷ sync_a1 ∷ coded 0xFE ∷ coded T ∷ coded H ∷ coded number ∷ coded 2 ∷ coded (id_word T H number / 256) ∷ coded (id_word T H number % 256)
        ∷ pieces_from (after_byte (after_byte (id_word T H number) (id_word T H number / 256)) (id_word T H number % 256)) false rest
    steps w rest =
        rw (
          sync-new,
          sync-on,
          sync-on,
          plain-one 0xFE (high-plain 0xFE (omega arith) (omega arith)),
          plain-one T (low-plain T t),
          plain-one H (low-plain H h),
          plain-one number (low-plain number n),
          plain-one 2 (low-plain 2 (omega arith)),
          check-two,
        )

-- ---- its data
abbrev pub data_word : List ℕ → ℕ
data_word bytes = check_word (0xA1 ∷ 0xA1 ∷ 0xA1 ∷ 0xFB ∷ bytes)

-- where the check word is w, `end` gives the bytes e1 and e2
pub record Ends (end : List ℕ) (w e1 e2 : ℕ) : Type 0 where
  pub after : ℕ
  pub is : (rest : List ℕ) → pieces_from w false (end ++ rest) ≡ coded e1 ∷ coded e2 ∷ pieces_from after false rest

pub ends-checked : (w : ℕ) → Ends (0xF7 ∷ []) w (w / 256) (w % 256)
ends-checked w = record { after = after_byte (after_byte w (w / 256)) (w % 256); is = λ rest. check-two w rest }

pub ends-chosen : (w a b : ℕ) → Plain a → Plain b → Ends (a ∷ b ∷ []) w a b
ends-chosen w a b p q =
    record {
      after = after_byte (after_byte w a) b;
      is = λ rest. plain-one a p w false (b ∷ rest) ∙ ap (λ (l : List Piece). coded a ∷ l) (plain-one b q (after_byte w a) false rest);
    }

gives-data : (bytes end : List ℕ) (e1 e2 : ℕ) (list : List ℕ) (pieces : List Piece) → ((i : ℕ) → Plain (get_or bytes i 0))
    → Ends end (data_word bytes) e1 e2 → Gives list pieces
    → Gives (0xF5 ∷ 0xF5 ∷ 0xF5 ∷ 0xFB ∷ (bytes ++ (end ++ list)))
    (sync_a1 ∷ sync_a1 ∷ sync_a1 ∷ coded 0xFB ∷ (map coded bytes ++ (coded e1 ∷ coded e2 ∷ pieces)))
unfolding check_word_from
gives-data bytes end e1 e2 list pieces p e g = record { after = λ w. g.after e.after; is = λ w rest. steps w rest }
  where
    steps : (w : ℕ) (rest : List ℕ)
        → pieces_from w false (0xF5 ∷ 0xF5 ∷ 0xF5 ∷ 0xFB ∷ ((bytes ++ (end ++ list)) ++ rest))
        ≡ sync_a1 ∷ sync_a1 ∷ sync_a1 ∷ coded 0xFB ∷ ((map coded bytes ++ (coded e1 ∷ coded e2 ∷ pieces)) ++ pieces_from (g.after e.after) false rest)
    steps w rest =
        rw (
          sync-new,
          sync-on,
          sync-on,
          plain-one 0xFB (high-plain 0xFB (omega arith) (omega arith)),
          append_assoc bytes (end ++ list) rest,
          append_assoc end list rest,
          plain-bytes bytes p,
          e.is (list ++ rest),
          g.is e.after rest,
          append_assoc (map coded bytes) (coded e1 ∷ coded e2 ∷ pieces) (pieces_from (g.after e.after) false rest),
        )

-- ---- the whole sector
pub gives-sector : (T H number : ℕ) (bytes end : List ℕ) (e1 e2 : ℕ) → T < 0xF5 → H < 0xF5 → number < 0xF5 → ((i : ℕ) → Plain (get_or bytes i 0))
    → Ends end (data_word bytes) e1 e2
    → Gives (sector_list T H number bytes end) (block T H number (id_word T H number / 256) (id_word T H number % 256) bytes e1 e2)
unfolding sector_list block front back
gives-sector T H number bytes end e1 e2 t h n p e =
    gives-append (replicate 12 0) _ (replicate 12 (coded 0)) _ (gives-replicate 12 0 (omega arith))
    (gives-append (0xF5 ∷ 0xF5 ∷ 0xF5 ∷ 0xFE ∷ T ∷ H ∷ number ∷ 2 ∷ 0xF7 ∷ []) _
    (sync_a1 ∷ sync_a1 ∷ sync_a1 ∷ coded 0xFE ∷ coded T ∷ coded H ∷ coded number ∷ coded 2 ∷ coded (id_word T H number / 256) ∷ coded (id_word T H number % 256) ∷ []) _
    (gives-id T H number t h n)
    (gives-append (replicate 22 0x4E) _ (replicate 22 (coded 0x4E)) _ (gives-replicate 22 0x4E (omega arith))
    (gives-append (replicate 12 0) _ (replicate 12 (coded 0)) _ (gives-replicate 12 0 (omega arith))
    (gives-data bytes end e1 e2 (replicate 40 0x4E) (replicate 40 (coded 0x4E)) p e (gives-replicate 40 0x4E (omega arith))))))

-- a list that is such a part as a whole
pub pieces-of : (list : List ℕ) (pieces : List Piece) → Gives list pieces → pieces_of list ≡ pieces
unfolding pieces_from
pieces-of list pieces g = rw (append-nil list, append-nil pieces) at (g.is 0xFFFF [])
