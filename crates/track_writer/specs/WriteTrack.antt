-- Section 17 of the specification, rules 17.1 to 17.7: what a list of bytes writes onto a track.
--
--   byte of the list    F5            F6            F7                           any other
--   pieces              sync, 4489    sync, 5224    two check bytes, coded       the byte, coded
--   check word          counts A1     counts C2     counts both                  counts the byte
--
-- The main property: a list without F5 to F7 gives what the coder gives (`as-encoded`, in proofs/PlainLists). Assumes nothing.
use Rattle.std.specs.Prelude.{ℕ, ◌*◌, ◌/◌, ◌%◌, Bool, true, false, cond, List, [], ◌∷◌, eqb, length}
use Rattle.crc.specs.CheckWord.{after_byte}
use Rattle.mfm.specs.Coding.{byte_cells}

-- 17.1: a piece, sixteen cells: a byte that is coded, the sync of A1 or the sync of C2
pub data Piece : Type 0 where
  coded : ℕ → Piece
  sync_a1 : Piece
  sync_c2 : Piece

-- 17.5, 17.7: the byte of a piece, which the check word counts and whose lowest bit is the data bit before the next piece
abbrev pub byte_of : Piece → ℕ
byte_of (coded byte) = byte
byte_of sync_a1 = 0xA1
byte_of sync_c2 = 0xC2

-- 17.1, 17.2, 17.3, 17.4, 17.6, 17.7: the pieces of a list. `w` is the check word before its first byte, and `run` says that an F5 stands before
-- that. An F5 that has none before it begins a run: it is counted from FFFF on. F7 gives the high byte of w and then the low one
unfoldable pub pieces_from : ℕ → Bool → List ℕ → List Piece
pieces_from w run [] = []
pieces_from w run (byte ∷ list) =
    cond (eqb byte 0xF5) (sync_a1 ∷ pieces_from (after_byte (cond run w 0xFFFF) 0xA1) true list)
    (cond (eqb byte 0xF6) (sync_c2 ∷ pieces_from (after_byte w 0xC2) false list)
    (cond (eqb byte 0xF7) (coded (w / 256) ∷ coded (w % 256) ∷ pieces_from (after_byte (after_byte w (w / 256)) (w % 256)) false list)
    (coded byte ∷ pieces_from (after_byte w byte) false list)))

-- 17.6: the pieces of a whole list: the check word is FFFF before it
abbrev pub pieces_of : List ℕ → List Piece
pieces_of list = pieces_from 0xFFFF false list

-- 17.2, 17.3, 17.4: the cells of a piece as a number of sixteen bits; `before` is the data bit before it, which changes no sync
unfoldable pub piece_cells : ℕ → Piece → ℕ
piece_cells before (coded byte) = byte_cells before byte
piece_cells before sync_a1 = 0x4489
piece_cells before sync_c2 = 0x5224

-- 17.5: the packed cells of pieces, of which the first has the data bit `before` before it: two bytes each
unfoldable pub packed_from : ℕ → List Piece → List ℕ
packed_from before [] = []
packed_from before (piece ∷ pieces) =
    piece_cells before piece / 256 ∷ piece_cells before piece % 256 ∷ packed_from (byte_of piece % 2) pieces

-- 17.5: the packed cells of a list, before which the data bit is 0
unfoldable pub written : List ℕ → List ℕ
written list = packed_from 0 (pieces_of list)

-- 17.8: how many cells a list has
unfoldable pub cell_count : List ℕ → ℕ
cell_count list = 16 * length (pieces_of list)
