-- Section 2 of the specification: the check word, bit by bit. The main property: the code, which goes a byte at a time by a table, gives
-- the same. Its table is the list of what eight zero bits do to a high byte (`all`, in proofs/entry). Assumes nothing.
use Rattle.std.specs.Prelude.{ℕ, zero, suc, ◌*◌, ◌/◌, ◌%◌, ◌^◌, cond, List, [], ◌∷◌, eqb}
use Rattle.std.specs.Int.Bits.{bit_xor}

-- 2.2: the check word w after one data bit. It moves up by one place, with a 0 coming in below. Where the bit that fell out is not the data
-- bit, it is then combined with 1021h by exclusive or
unfoldable pub after_bit : ℕ → ℕ → ℕ
after_bit w bit = cond (eqb (w / 2 ^ 15) bit) (w % 2 ^ 15 * 2) (bit_xor (w % 2 ^ 15 * 2) 0x1021)

-- 2.1: after the lowest k bits of a byte, from the highest of them to the lowest
unfoldable pub after_bits : ℕ → ℕ → ℕ → ℕ
after_bits zero w byte = w
after_bits (suc k) w byte = after_bits k (after_bit w (byte / 2 ^ k % 2)) byte

-- 2.1: after the eight bits of a byte
unfoldable pub after_byte : ℕ → ℕ → ℕ
after_byte w byte = after_bits 8 w byte

-- 2.3: after bytes, carried on from the word w that earlier bytes left
unfoldable pub check_word_from : ℕ → List ℕ → ℕ
check_word_from w [] = w
check_word_from w (byte ∷ bytes) = check_word_from (after_byte w byte) bytes

-- 2.1: the check word of bytes: it is FFFF before the first of them
abbrev pub check_word : List ℕ → ℕ
check_word bytes = check_word_from 0xFFFF bytes
