-- Bytes taken one by one and four at a time. Assumes nothing.
use Prim.Native.Nat.{ℕ, zero, suc, ◌+◌, ◌-◌, ◌*◌, ◌/◌, ◌≤◌, ◌<◌}
use mathlib.Core.Path.{◌≡◌, ◌∙◌}
use mathlib.Core.List.{List, []}
use native.Mathlib.Numerals.{add-one}
use native.Mathlib.Omega.{arith}
use Rattle.std.specs.Simd.{first_chunks}
use lib.ListN.{length, get_or, drop, drop_of_length-le}
use Rattle.std.proofs.lemmas.List.{get_or-take, get_or-drop}
use lib.Seq.{drop-cons}
use Rattle.crc.specs.CheckWord.{after_byte, check_word_from}

module _ (w : ℕ) (bytes : List ℕ) (i : ℕ) where
  pub turn : i < length bytes → check_word_from w (drop i bytes) ≡ check_word_from (after_byte w (get_or bytes i 0)) (drop (i + 1) bytes)
  unfolding check_word_from
  turn h = rw (add-one, drop-cons bytes i 0)

  pub end : length bytes ≤ i → check_word_from w (drop i bytes) ≡ w
  unfolding check_word_from
  end h = rw (drop_of_length-le bytes h)

pub four-turns : (w : ℕ) (bytes : List ℕ) (i : ℕ) → 4 ≤ length bytes - i
    → check_word_from w (drop i bytes)
    ≡ check_word_from (after_byte (after_byte (after_byte (after_byte w (get_or bytes i 0)) (get_or bytes (i + 1) 0)) (get_or bytes (i + 2) 0)) (get_or bytes (i + 3) 0)) (drop (i + 4) bytes)
four-turns w bytes i h =
    let e2 : i + 1 + 1 ≡ i + 2 = omega arith in
    let e3 : i + 2 + 1 ≡ i + 3 = omega arith in
    let e4 : i + 3 + 1 ≡ i + 4 = omega arith in
    let two = rw e2 at (turn (after_byte w (get_or bytes i 0)) bytes (i + 1) (omega arith)) in
    let three = rw e3 at (turn (after_byte (after_byte w (get_or bytes i 0)) (get_or bytes (i + 1) 0)) bytes (i + 2) (omega arith)) in
    let four = rw e4 at (turn (after_byte (after_byte (after_byte w (get_or bytes i 0)) (get_or bytes (i + 1) 0)) (get_or bytes (i + 2) 0)) bytes (i + 3) (omega arith)) in
    turn w bytes i (omega arith) ∙ two ∙ three ∙ four

-- byte j of the chunk i of n bytes
chunk-byte : (n k : ℕ) (bytes : List ℕ) (i j : ℕ) → i < k → j < n → get_or (get_or (first_chunks n k bytes) i []) j 0 ≡ get_or bytes (n * i + j) 0
chunk-byte n zero bytes i j h l = absurd (omega arith)
chunk-byte n (suc k) bytes zero j h l = let e : n * 0 + j ≡ j = omega arith in get_or-take n bytes j 0 l ∙ rw e
chunk-byte n (suc k) bytes (suc i) j h l =
    let e : n + (n * i + j) ≡ n * suc i + j = omega arith in
    chunk-byte n k (drop n bytes) i j (omega arith) l ∙ get_or-drop n bytes (n * i + j) 0 ∙ rw e

pub chunk-turn : (w : ℕ) (bytes : List ℕ) (fours : List (List ℕ)) (i : ℕ) → fours ≡ first_chunks 4 (length bytes / 4) bytes → i < length bytes / 4
    → check_word_from w (drop (4 * i) bytes)
    ≡ check_word_from (after_byte (after_byte (after_byte (after_byte w (get_or (get_or fours i []) 0 0)) (get_or (get_or fours i []) 1 0)) (get_or (get_or fours i []) 2 0)) (get_or (get_or fours i []) 3 0)) (drop (4 * (i + 1)) bytes)
chunk-turn w bytes fours i e h =
    let k = length bytes / 4 in
    let s : 4 * (i + 1) ≡ 4 * i + 4 = omega arith in
    let z : 4 * i + 0 ≡ 4 * i = omega arith in
    rw (e, chunk-byte 4 k bytes i 0 h (omega arith), chunk-byte 4 k bytes i 1 h (omega arith), chunk-byte 4 k bytes i 2 h (omega arith), chunk-byte 4 k bytes i 3 h (omega arith), s, z)
    (four-turns w bytes (4 * i) (omega arith))
