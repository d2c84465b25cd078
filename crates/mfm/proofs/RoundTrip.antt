-- Decoding what was coded gives the bytes: of the definitions, and so of the two calls. Assumes nothing.
use Prim.Native.Nat.{ℕ, ◌+◌, ◌*◌, ◌/◌, ◌<◌, ◌≤◌}
use mathlib.Core.Path.{◌≡◌, sym, ap, ◌∙◌}
use mathlib.Core.List.{List}
use native.Mathlib.Omega.{arith}
use lib.ListN.{length, get_or, take}
use lib.Seq.{ext_get_or, take_at}
use Rattle.basis.specs.Lists.{written_over}
use Rattle.basis.proofs.Lists.{length-listed, get_d-listed}
use Rattle.cells.specs.CellsAndBytes.{bit_of, cell_at, packed}
use Rattle.cells.proofs.Packing.{length-packed, cell-packed, word-bits}
use Rattle.cells.proofs.Words.{word_same}
use Rattle.refusals.specs.RefusedCalls.{Answer, buffer_after}
use Rattle.refusals.specs.RefusedCalls.Answer.{gives}
use Rattle.mfm.specs.Coding.{data_bits, bit_cells, encoded, data_cell, byte_on, decoded_byte, decoded}
use Rattle.mfm.specs.Calls.{coding_answer, decoding_answer, encoded_after, decoded_after}
use Rattle.mfm.proofs.Calls.{in-room}
use Rattle.mfm.proofs.Cells.{length-bits, length-cells, cells_are, bits_are, data-cell, data-bit}

pub length-encoded : (before : ℕ) (bytes : List ℕ) → length (encoded before bytes) ≡ 2 * length bytes
unfolding encoded
length-encoded before bytes =
    omega (arith, length-packed (bit_cells before (data_bits bytes)), length-cells before (data_bits bytes), length-bits bytes)

pub length-decoded : (cells : List ℕ) → length (decoded cells) ≡ length cells / 2
unfolding decoded
length-decoded cells = length-listed (decoded_byte cells) (length cells / 2)

get_d-decoded : (cells : List ℕ) (i : ℕ) → i < length cells / 2 → get_or (decoded cells) i 0 ≡ decoded_byte cells i
unfolding decoded
get_d-decoded cells i h = get_d-listed (decoded_byte cells) 0 (length cells / 2) i h

byte-again : (before : ℕ) (bytes : List ℕ) → ((i : ℕ) → get_or bytes i 0 < 256) → (i : ℕ) → i < length bytes
    → decoded_byte (encoded before bytes) i ≡ get_or bytes i 0
unfolding decoded_byte byte_on encoded
byte-again before bytes small i h =
    word_same (data_cell (cell_at (packed (bit_cells before (data_bits bytes)))) (16 * i)) (bit_of (get_or bytes i 0)) 8 0 0 (λ j l. one j l) ∙ word-bits (get_or bytes i 0) (small i)
  where
    one : (j : ℕ) → j < 8 → cell_at (packed (bit_cells before (data_bits bytes))) (16 * i + (2 * (0 + j) + 1)) ≡ bit_of (get_or bytes i 0) (0 + j)
    one j l =
        let s : 16 * i + (2 * (0 + j) + 1) ≡ 2 * (8 * i + j) + 1 = omega arith in
        let z : 0 + j ≡ j = omega arith in
        rw (s, z) (cell-packed (bit_cells before (data_bits bytes)) (cells_are before (data_bits bytes) (bits_are bytes)) (2 * (8 * i + j) + 1)
        ∙ data-cell before (data_bits bytes) (8 * i + j) ∙ data-bit bytes i j h l)

-- of the definitions: for every bit before, and every list of bytes, each of them below 256
pub decoded-encoded : (before : ℕ) (bytes : List ℕ) → ((i : ℕ) → get_or bytes i 0 < 256) → decoded (encoded before bytes) ≡ bytes
decoded-encoded before bytes small =
    let n : length (decoded (encoded before bytes)) ≡ length bytes = omega (arith, length-decoded (encoded before bytes), length-encoded before bytes) in
    ext_get_or 0 (decoded (encoded before bytes)) bytes n (λ i h. each i (omega arith))
  where
    each : (i : ℕ) → i < length bytes → get_or (decoded (encoded before bytes)) i 0 ≡ get_or bytes i 0
    each i h = get_d-decoded (encoded before bytes) i (omega (arith, length-encoded before bytes)) ∙ byte-again before bytes small i h

-- the buffer of an accepted call
made : (answer : Answer ℕ) (count : ℕ) (new buffer : List ℕ) → answer ≡ gives count → buffer_after answer new buffer ≡ written_over new buffer
unfolding buffer_after
made answer count new buffer e = rw e

left : (before : ℕ) (bytes cells : List ℕ) → length bytes ≤ 8192 → 2 * length bytes ≤ length cells → take (2 * length bytes) (encoded_after before bytes cells) ≡ encoded before bytes
left before bytes cells most room =
    ap (take (2 * length bytes)) (made (coding_answer bytes cells) (2 * length bytes) (encoded before bytes) cells (sym (in-room 8192 (length bytes) (2 * length bytes) (length cells) most room)))
    ∙ take_at (encoded before bytes) _ (2 * length bytes) (length-encoded before bytes)

-- of the calls: what a call left that coded bytes, with room for them, is decoded by a call with room, which gives as many bytes and
-- leaves them at the front of its buffer
pub calls-round-trip : (before : ℕ) (bytes cells out : List ℕ) → ((i : ℕ) → get_or bytes i 0 < 256)
    → length bytes ≤ 8192 → 2 * length bytes ≤ length cells → length bytes ≤ length out
    → (decoding_answer (take (2 * length bytes) (encoded_after before bytes cells)) out ≡ gives (length bytes))
    × (decoded_after (take (2 * length bytes) (encoded_after before bytes cells)) out ≡ written_over bytes out)
calls-round-trip before bytes cells out small most room back = rw front (answer, buffer)
  where
    front : take (2 * length bytes) (encoded_after before bytes cells) ≡ encoded before bytes
    front = left before bytes cells most room

    answer : decoding_answer (encoded before bytes) out ≡ gives (length bytes)
    answer =
        let n = length-encoded before bytes in
        let e : length (encoded before bytes) / 2 ≡ length bytes = omega arith in
        sym (in-room 16384 (length (encoded before bytes)) (length (encoded before bytes) / 2) (length out) (omega arith) (omega arith)) ∙ ap gives e

    buffer : decoded_after (encoded before bytes) out ≡ written_over bytes out
    buffer = made (decoding_answer (encoded before bytes) out) (length bytes) (decoded (encoded before bytes)) out answer ∙ ap (λ (l : List ℕ). written_over l out) (decoded-encoded before bytes small)
