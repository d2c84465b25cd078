-- Rule 17.4: bytes other than F5 to F7 are coded, and a list of such bytes alone gives what the coder gives after a data bit 0. Assumes nothing.
use Prim.Native.Nat.{ℕ, suc, ◌%◌}
use mathlib.Core.Path.{◌≡◌, refl, sym, ap, ◌∙◌}
use mathlib.Core.Bool.{Bool, false}
use mathlib.Core.List.{List, [], ◌∷◌, ◌++◌, map, append-nil}
use borrow.Author.Tests.{ne_eqb}
use lib.ListN.{get_or}
use Rattle.crc.specs.CheckWord.{after_byte, check_word_from}
use Rattle.mfm.specs.Coding.{encoded}
use Rattle.mfm.proofs.Coder.{encoded-none, encoded-more}
use Rattle.track_writer.specs.WriteTrack.{Piece, pieces_from, piece_cells, packed_from, written}
use Rattle.track_writer.specs.WriteTrack.Piece.{coded}

abbrev pub Ordinary : ℕ → Type 0
Ordinary byte = (byte ≡ 0xF5 → ⊥) × (byte ≡ 0xF6 → ⊥) × (byte ≡ 0xF7 → ⊥)

pub one-coded : (byte : ℕ) → Ordinary byte → (w : ℕ) (run : Bool) (rest : List ℕ)
    → pieces_from w run (byte ∷ rest) ≡ coded byte ∷ pieces_from (after_byte w byte) false rest
unfolding pieces_from
one-coded byte o w run rest = rw (ne_eqb byte 0xF5 o.0, ne_eqb byte 0xF6 o.1, ne_eqb byte 0xF7 o.2)

pub all_coded : (bytes : List ℕ) → ((i : ℕ) → Ordinary (get_or bytes i 0)) → (w : ℕ) (rest : List ℕ)
    → pieces_from w false (bytes ++ rest) ≡ map coded bytes ++ pieces_from (check_word_from w bytes) false rest
unfolding check_word_from
all_coded [] o w rest = refl
all_coded (b ∷ bs) o w rest =
    one-coded b (o 0) w false (bs ++ rest) ∙ ap (λ (l : List Piece). coded b ∷ l) (all_coded bs (λ i. o (suc i)) (after_byte w b) rest)

packed-coded : (before : ℕ) (bytes : List ℕ) → packed_from before (map coded bytes) ≡ encoded before bytes
unfolding packed_from piece_cells
packed-coded before [] = sym (encoded-none before)
packed-coded before (b ∷ bs) = rw (packed-coded (b % 2) bs) (sym (encoded-more before b bs))

pub as-encoded : (bytes : List ℕ) → ((i : ℕ) → Ordinary (get_or bytes i 0)) → written bytes ≡ encoded 0 bytes
unfolding written pieces_from
as-encoded bytes o =
    let e : pieces_from 0xFFFF false bytes ≡ map coded bytes = rw (append-nil bytes, append-nil (map coded bytes)) at (all_coded bytes o 0xFFFF []) in
    rw e (packed-coded 0 bytes)
