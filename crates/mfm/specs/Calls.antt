-- Section 9 of the specification, rules 9.8 and 9.9: the call that codes and the call that decodes, with their refusals 14 and 13. The main
-- properties: what is written has as many bytes as are answered (`length-encoded`, `length-decoded`), and a call that decodes what a call
-- coded gives the bytes back (`calls-round-trip`, all in proofs/RoundTrip). Assumes nothing.
use Rattle.std.specs.Prelude.{ℕ, ◌*◌, ◌/◌, cond, List, ltb, length}
use Rattle.refusals.specs.RefusedCalls.{Answer, buffer_after}
use Rattle.refusals.specs.RefusedCalls.Answer.{gives, refused}
use Rattle.mfm.specs.Coding.{encoded, decoded}

-- 8.13, 8.14: more than `most` bytes are refused with 14, and the number of bytes handed over beside it; then a room of fewer bytes than
-- are needed is refused with 13, and the bytes needed beside it. Else as many are written as are needed
unfoldable pub judged : (most given needed room : ℕ) → Answer ℕ
judged most given needed room = cond (ltb most given) (refused 14 given) (cond (ltb room needed) (refused 13 needed) (gives needed))

-- 8.14, 9.8: up to 8,192 bytes are coded, and two bytes of cells are written for each
abbrev pub coding_answer : List ℕ → List ℕ → Answer ℕ
coding_answer bytes cells = judged 8192 (length bytes) (2 * length bytes) (length cells)

-- 8.14, 9.9, 9.22: up to 16,384 bytes of cells are decoded, and a byte is written for each two. An odd last one counts in the limit too
abbrev pub decoding_answer : List ℕ → List ℕ → Answer ℕ
decoding_answer cells bytes = judged 16384 (length cells) (length cells / 2) (length bytes)

-- 8.31, 9.8: the buffer lent to a call that codes
abbrev pub encoded_after : ℕ → List ℕ → List ℕ → List ℕ
encoded_after before bytes cells = buffer_after (coding_answer bytes cells) (encoded before bytes) cells

-- 8.31, 9.9: the buffer lent to a call that decodes
abbrev pub decoded_after : List ℕ → List ℕ → List ℕ
decoded_after cells bytes = buffer_after (decoding_answer cells bytes) (decoded cells) bytes
