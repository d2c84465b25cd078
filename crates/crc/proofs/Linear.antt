-- The check word's step is linear over exclusive or, so four bytes go in by four look-ups in tables of 256.
-- Assumes nothing.
use Prim.Native.Nat.{ℕ, zero, suc, ◌+◌, ◌*◌, ◌/◌, ◌%◌, ◌^◌, ◌<◌}
use mathlib.Core.Path.{◌≡◌, refl, sym, ap, ◌∙◌}
use mathlib.Core.Bool.{Bool, true, false, cond}
use native.Mathlib.Nat.{zero-div, div-eq_of_lt, mod-eq_of_lt, mod-lt, mul_assoc, mul_comm, mul-one, mul-le-mul_left, mul-lt-mul_of_pos_right, add-zero, add-mul, mod-one, zero-mul}
use native.Mathlib.Numerals.{add-one, one-add}
use native.Mathlib.Omega.{arith}
use lib.Dec.{eqb}
use lib.Pow.{pow-add, pow_pos, mod-pow-add, split}
use lib.Bits.{bit_xor, xor_zero_r, xor_shr, xor_mod, xor_block, xor_lt, xor_comm, xor_shifted, xor_zero_l}
use Rattle.crc.specs.CheckWord.{after_bit, after_bits, after_byte}
use Rattle.crc.specs.PrivateContracts.{after_zeros}
use Rattle.crc.proofs.Xor.{xor_assoc}

pub bit-lt : (w d : ℕ) → after_bit w d < 65536
unfolding after_bit
bit-lt w d = go (eqb (w / 32768) d)
  where
    go : (t : Bool) → cond t (w % 32768 * 2) (bit_xor (w % 32768 * 2) 0x1021) < 65536
    go true = omega arith
    go false = xor_lt 16 (w % 32768 * 2) 0x1021 (omega arith) (omega arith)

-- the data bit may be put into the word's highest bit instead
flip : (t : ℕ) → t < 2 → eqb (bit_xor t 1) 0 ≡ eqb t 1
flip zero h = refl
flip (suc zero) h = refl
flip (suc (suc t)) h = absurd (omega arith)

pub bit_in : (w d : ℕ) → w < 65536 → d < 2 → after_bit w d ≡ after_bit (bit_xor w (d * 32768)) 0
unfolding after_bit
bit_in w zero h l = rw (xor_zero_r w)
bit_in w (suc zero) h l =
    let t : w / 32768 < 2 = omega arith in
    rw (xor_shr w 32768 15, xor_mod w 32768 15, xor_zero_r (w % 32768), flip (w / 32768) t)
bit_in w (suc (suc d)) h l = absurd (omega arith)

-- what lies below the highest bit only moves up
double : (a x : ℕ) → bit_xor a x * 2 ≡ bit_xor (a * 2) (x * 2)
double a x = sym (simp add-zero at (xor_block 1 a x 0 0 (omega arith) (omega arith)))

pub bit-low : (w x : ℕ) → x < 32768 → after_bit (bit_xor w x) 0 ≡ bit_xor (after_bit w 0) (x * 2)
unfolding after_bit
bit-low w x h =
    rw (xor_shr w x 15, div-eq_of_lt h, xor_zero_r (w / 32768), xor_mod w x 15, mod-eq_of_lt h, double (w % 32768) x) (go (eqb (w / 32768) 0) (w % 32768 * 2) (x * 2))
  where
    go : (t : Bool) (a y : ℕ) → cond t (bit_xor a y) (bit_xor (bit_xor a y) 0x1021) ≡ bit_xor (cond t a (bit_xor a 0x1021)) y
    go true a y = refl
    go false a y = xor_assoc a y 0x1021 ∙ ap (bit_xor a) (xor_comm y 0x1021) ∙ sym (xor_assoc a 0x1021 y)

-- powers
up : (x k : ℕ) → x * 2 * 2 ^ k ≡ x * 2 ^ suc k
up x k = mul_assoc x 2 (2 ^ k) ∙ ap (λ (y : ℕ). x * y) (mul_comm 2 (2 ^ k) ∙ sym (pow-add 2 k 1) ∙ ap (λ (m : ℕ). 2 ^ m) (add-one k))

twice : (r j : ℕ) → r * 2 ^ j * 2 ≡ r * 2 ^ suc j
twice r j = mul_assoc r (2 ^ j) 2 ∙ ap (λ (y : ℕ). r * y) (sym (pow-add 2 j 1) ∙ ap (λ (m : ℕ). 2 ^ m) (add-one j))

no_bits : (k : ℕ) → 0 / 2 ^ k % 2 ≡ 0
no_bits k = ap (λ (y : ℕ). y % 2) (zero-div (2 ^ k))

pub bits-low : (k w x : ℕ) → x * 2 ^ k < 65536 → after_bits k (bit_xor w x) 0 ≡ bit_xor (after_bits k w 0) (x * 2 ^ k)
unfolding after_bits
bits-low zero w x h = rw (mul-one x)
bits-low (suc k) w x h =
    let s : x < 32768 = omega (arith, mul-le-mul_left (x * 2) (pow_pos k), up x k) in
    let m : x * 2 * 2 ^ k < 65536 = rw (up x k) h in
    rw (no_bits k, bit-low w x s, bits-low k (after_bit w 0) (x * 2) m, up x k)

pub bits_in : (k j w b : ℕ) → k + j ≡ 16 → w < 65536 → after_bits k w b ≡ after_bits k (bit_xor w (b % 2 ^ k * 2 ^ j)) 0
unfolding after_bits
bits_in zero j w b e h = rw (mod-one b, zero-mul (2 ^ j), xor_zero_r w)
bits_in (suc k) j w b e h =
    let d = b / 2 ^ k % 2 in
    let x = b % 2 ^ k * 2 ^ j in
    let dl : d < 2 = omega arith in
    let e₁ : k + suc j ≡ 16 = omega arith in
    let e₂ : k + j ≡ 15 = omega arith in
    let p : 2 ^ k * 2 ^ j ≡ 32768 = sym (pow-add 2 k j) ∙ ap (λ (m : ℕ). 2 ^ m) e₂ in
    let m : b % 2 ^ suc k ≡ d * 2 ^ k + b % 2 ^ k = rw (one-add k) at (mod-pow-add b 1 k) in
    let y : b % 2 ^ suc k * 2 ^ j ≡ d * 32768 + x =
    ap (λ (v : ℕ). v * 2 ^ j) m ∙ add-mul (d * 2 ^ k) (b % 2 ^ k) (2 ^ j) ∙ ap (λ (v : ℕ). v + x) (mul_assoc d (2 ^ k) (2 ^ j) ∙ ap (λ (v : ℕ). d * v) p) in
    let xl : x < 32768 = rw p at (mul-lt-mul_of_pos_right (mod-lt b (pow_pos k)) (pow_pos j)) in
    let z : bit_xor w (b % 2 ^ suc k * 2 ^ j) ≡ bit_xor (bit_xor w (d * 32768)) x = rw (y, ← xor_shifted d 15 x xl) (sym (xor_assoc w (d * 32768) x)) in
    bits_in k (suc j) (after_bit w d) b e₁ (bit-lt w d)
    ∙ sym (rw (no_bits k, z, bit-low (bit_xor w (d * 32768)) x xl, ← bit_in w d h dl, twice (b % 2 ^ k) j))

-- the step over exclusive or
both-flipped : (x y : ℕ) → bit_xor (bit_xor x 0x1021) (bit_xor y 0x1021) ≡ bit_xor x y
both-flipped x y =
    xor_assoc x 0x1021 (bit_xor y 0x1021)
    ∙ ap (bit_xor x) (ap (bit_xor 0x1021) (xor_comm y 0x1021) ∙ sym (xor_assoc 0x1021 0x1021 y) ∙ xor_zero_l y)

pub bit-both : (u v : ℕ) → u < 65536 → v < 65536 → after_bit (bit_xor u v) 0 ≡ bit_xor (after_bit u 0) (after_bit v 0)
unfolding after_bit
bit-both u v h l =
    let a : u / 32768 < 2 = omega arith in
    let b : v / 32768 < 2 = omega arith in
    rw (xor_shr u v 15, xor_mod u v 15, double (u % 32768) (v % 32768)) (go (u / 32768) (v / 32768) (u % 32768 * 2) (v % 32768 * 2) a b)
  where
    go : (a b x y : ℕ) → a < 2 → b < 2
        → cond (eqb (bit_xor a b) 0) (bit_xor x y) (bit_xor (bit_xor x y) 0x1021)
        ≡ bit_xor (cond (eqb a 0) x (bit_xor x 0x1021)) (cond (eqb b 0) y (bit_xor y 0x1021))
    go zero zero x y h l = refl
    go zero (suc zero) x y h l = xor_assoc x y 0x1021
    go (suc zero) zero x y h l = xor_assoc x y 0x1021 ∙ ap (bit_xor x) (xor_comm y 0x1021) ∙ sym (xor_assoc x 0x1021 y)
    go (suc zero) (suc zero) x y h l = sym (both-flipped x y)
    go zero (suc (suc b)) x y h l = absurd (omega arith)
    go (suc zero) (suc (suc b)) x y h l = absurd (omega arith)
    go (suc (suc a)) b x y h l = absurd (omega arith)

pub bits-both : (k u v : ℕ) → u < 65536 → v < 65536 → after_bits k (bit_xor u v) 0 ≡ bit_xor (after_bits k u 0) (after_bits k v 0)
unfolding after_bits
bits-both zero u v h l = refl
bits-both (suc k) u v h l = rw (no_bits k, bit-both u v h l) (bits-both k (after_bit u 0) (after_bit v 0) (bit-lt u 0) (bit-lt v 0))

pub byte-lt : (w b : ℕ) → after_byte w b < 65536
unfolding after_byte after_bits
byte-lt w b = bit-lt _ _

-- a zero byte, over exclusive or
pub zeros-both : (u v : ℕ) → u < 65536 → v < 65536 → after_byte (bit_xor u v) 0 ≡ bit_xor (after_byte u 0) (after_byte v 0)
unfolding after_byte
zeros-both u v h l = bits-both 8 u v h l

-- a byte goes in as the high byte of the word, and then a zero byte comes
pub byte-in : (w b : ℕ) → w < 65536 → b < 256 → after_byte w b ≡ after_byte (bit_xor w (b * 256)) 0
unfolding after_byte
byte-in w b h l = let m : b % 2 ^ 8 ≡ b = mod-eq_of_lt l in bits_in 8 8 w b refl h ∙ rw m

from_zero : after_bits 8 0 0 ≡ 0
unfolding after_bits after_bit
from_zero = refl

-- the low byte only moves up
pub low_up : (b : ℕ) → b < 256 → after_byte b 0 ≡ b * 256
unfolding after_byte
low_up b h = ap (λ (u : ℕ). after_bits 8 u 0) (sym (xor_zero_l b)) ∙ bits-low 8 0 b (omega arith) ∙ ap (λ (u : ℕ). bit_xor u (b * 256)) from_zero ∙ xor_zero_l (b * 256)

up-both : (a b : ℕ) → bit_xor (a * 256) (b * 256) ≡ bit_xor a b * 256
up-both a b = simp add-zero at (xor_block 8 a b 0 0 (omega arith) (omega arith))

halves : (w : ℕ) → w ≡ bit_xor (w / 256 * 256) (w % 256)
halves w = sym (xor_shifted (w / 256) 8 (w % 256) (omega arith) ∙ split w 8)

-- the high byte and the low byte apart
parts : (w b : ℕ) → b < 256 → bit_xor w (b * 256) ≡ bit_xor (bit_xor (w / 256) b * 256) (w % 256)
parts w b h =
    ap (λ (u : ℕ). bit_xor u (b * 256)) (halves w)
    ∙ xor_assoc (w / 256 * 256) (w % 256) (b * 256)
    ∙ ap (bit_xor (w / 256 * 256)) (xor_comm (w % 256) (b * 256))
    ∙ sym (xor_assoc (w / 256 * 256) (b * 256) (w % 256))
    ∙ ap (λ (u : ℕ). bit_xor u (w % 256)) (up-both (w / 256) b)

-- one byte by the high bytes alone
pub one_byte : (w b : ℕ) → w < 65536 → b < 256 → after_byte w b ≡ bit_xor (after_zeros 1 (bit_xor (w / 256) b * 256)) (w % 256 * 256)
unfolding after_zeros
one_byte w b h l =
    let x = bit_xor (w / 256) b in
    let g = xor_lt 8 (w / 256) b (omega arith) l in
    byte-in w b h l ∙ ap (λ (u : ℕ). after_byte u 0) (parts w b l)
    ∙ zeros-both (x * 256) (w % 256) (omega arith) (omega arith)
    ∙ ap (bit_xor (after_byte (x * 256) 0)) (low_up (w % 256) (omega arith))

-- one byte more, where the word is what k bytes left
more : (u b : ℕ) → u < 65536 → b < 256 → after_byte u b ≡ bit_xor (after_byte u 0) (after_zeros 1 (b * 256))
unfolding after_zeros
more u b h l = byte-in u b h l ∙ zeros-both u (b * 256) h (omega arith)

pub zeros-lt : (k w : ℕ) → after_zeros (suc k) w < 65536
unfolding after_zeros
zeros-lt k w = byte-lt (after_zeros k w) 0

next-zeros : (k w : ℕ) → after_byte (after_zeros k w) 0 ≡ after_zeros (suc k) w
unfolding after_zeros
next-zeros k w = refl

zero-byte : (w : ℕ) → after_byte w 0 ≡ after_zeros 1 w
unfolding after_zeros
zero-byte w = refl

-- two zero bytes' work at once: what comes after, of a word in two parts
after_both : (j k u v : ℕ) → after_byte (bit_xor (after_zeros (suc j) u) (after_zeros (suc k) v)) 0 ≡ bit_xor (after_zeros (suc (suc j)) u) (after_zeros (suc (suc k)) v)
after_both j k u v =
    zeros-both (after_zeros (suc j) u) (after_zeros (suc k) v) (zeros-lt j u) (zeros-lt k v)
    ∙ ap (λ (x : ℕ). bit_xor x (after_byte (after_zeros (suc k) v) 0)) (next-zeros (suc j) u)
    ∙ ap (bit_xor (after_zeros (suc (suc j)) u)) (next-zeros (suc k) v)

both-lt : (j k u v : ℕ) → bit_xor (after_zeros (suc j) u) (after_zeros (suc k) v) < 65536
both-lt j k u v = xor_lt 16 (after_zeros (suc j) u) (after_zeros (suc k) v) (zeros-lt j u) (zeros-lt k v)

pub two_bytes : (w a b : ℕ) → w < 65536 → a < 256 → b < 256
    → after_byte (after_byte w a) b ≡ bit_xor (after_zeros 2 (bit_xor (w / 256) a * 256)) (after_zeros 1 (bit_xor (w % 256) b * 256))
two_bytes w a b h la lb =
    let x = bit_xor (w / 256) a * 256 in
    let y = bit_xor (w % 256) b * 256 in
    let ly = xor_lt 8 (w % 256) b (omega arith) lb in
    let e : bit_xor (after_byte w a) (b * 256) ≡ bit_xor (after_zeros 1 x) y =
    ap (λ (u : ℕ). bit_xor u (b * 256)) (one_byte w a h la) ∙ xor_assoc (after_zeros 1 x) (w % 256 * 256) (b * 256) ∙ ap (bit_xor (after_zeros 1 x)) (up-both (w % 256) b) in
    byte-in (after_byte w a) b (byte-lt w a) lb ∙ ap (λ (u : ℕ). after_byte u 0) e
    ∙ zeros-both (after_zeros 1 x) y (zeros-lt 0 x) (omega arith)
    ∙ ap (λ (u : ℕ). bit_xor u (after_byte y 0)) (next-zeros 1 x)
    ∙ ap (bit_xor (after_zeros 2 x)) (zero-byte y)

pub four_bytes : (w a b c d : ℕ) → w < 65536 → a < 256 → b < 256 → c < 256 → d < 256
    → after_byte (after_byte (after_byte (after_byte w a) b) c) d
    ≡ bit_xor (bit_xor (after_zeros 4 (bit_xor (w / 256) a * 256)) (after_zeros 3 (bit_xor (w % 256) b * 256))) (bit_xor (after_zeros 2 (c * 256)) (after_zeros 1 (d * 256)))
four_bytes w a b c d h la lb lc ld =
    let x = bit_xor (w / 256) a * 256 in
    let y = bit_xor (w % 256) b * 256 in
    let two = two_bytes w a b h la lb in
    let three : after_byte (after_byte (after_byte w a) b) c ≡ bit_xor (bit_xor (after_zeros 3 x) (after_zeros 2 y)) (after_zeros 1 (c * 256)) =
    more (after_byte (after_byte w a) b) c (byte-lt (after_byte w a) b) lc
    ∙ ap (λ (u : ℕ). bit_xor (after_byte u 0) (after_zeros 1 (c * 256))) two
    ∙ ap (λ (u : ℕ). bit_xor u (after_zeros 1 (c * 256))) (after_both 1 0 x y) in
    more (after_byte (after_byte (after_byte w a) b) c) d (byte-lt (after_byte (after_byte w a) b) c) ld
    ∙ ap (λ (u : ℕ). bit_xor (after_byte u 0) (after_zeros 1 (d * 256))) three
    ∙ ap (λ (u : ℕ). bit_xor u (after_zeros 1 (d * 256))) (zeros-both (bit_xor (after_zeros 3 x) (after_zeros 2 y)) (after_zeros 1 (c * 256)) (both-lt 2 1 x y) (zeros-lt 0 (c * 256)))
    ∙ ap (λ (u : ℕ). bit_xor (bit_xor u (after_byte (after_zeros 1 (c * 256)) 0)) (after_zeros 1 (d * 256))) (after_both 2 1 x y)
    ∙ ap (λ (u : ℕ). bit_xor (bit_xor (bit_xor (after_zeros 4 x) (after_zeros 3 y)) u) (after_zeros 1 (d * 256))) (next-zeros 1 (c * 256))
    ∙ xor_assoc (bit_xor (after_zeros 4 x) (after_zeros 3 y)) (after_zeros 2 (c * 256)) (after_zeros 1 (d * 256))
