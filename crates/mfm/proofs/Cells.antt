-- Laws of data bits and their cells. Assumes nothing.
use Prim.Native.Nat.{ℕ, zero, suc, ◌+◌, ◌*◌, ◌%◌, ◌<◌}
use mathlib.Core.Path.{◌≡◌, refl, ◌∙◌}
use mathlib.Core.Bool.{Bool, true, false, cond, ◌&&◌}
use mathlib.Core.List.{List, [], ◌∷◌, ◌++◌}
use native.Mathlib.Omega.{arith}
use mir.Val.{bool_byte}
use lib.Dec.{eqb}
use lib.ListN.{length, get_or, length-append, get_or-append}
use lib.Seq.{get_or-append-add}
use Rattle.basis.specs.Lists.{listed}
use Rattle.basis.proofs.Lists.{length-listed, get_d-listed}
use Rattle.cells.specs.CellsAndBytes.{bit_of}
use Rattle.mfm.specs.Coding.{data_bits, clock, bit_cells}

pub bit-lt : (before : Bool) → cond before 1 0 < 2
bit-lt true = omega arith
bit-lt false = omega arith

-- a yes or no cast to a number, and its lowest bit
pub cast_is : (before : Bool) → bool_byte before ≡ cond before 1 0
cast_is true = refl
cast_is false = refl

pub cast-bit : (before : Bool) → bool_byte before % 2 ≡ cond before 1 0
cast-bit true = refl
cast-bit false = refl

pub clock-lt : (before bit : ℕ) → clock before bit < 2
clock-lt before bit = bit-lt (eqb before 0 && eqb bit 0)

pub length-bits : (bytes : List ℕ) → length (data_bits bytes) ≡ 8 * length bytes
unfolding data_bits
length-bits [] = refl
length-bits (byte ∷ bytes) =
    omega (arith, length-append (listed (bit_of byte) 8) (data_bits bytes), length-listed (bit_of byte) 8, length-bits bytes)

pub length-cells : (before : ℕ) (bits : List ℕ) → length (bit_cells before bits) ≡ 2 * length bits
unfolding bit_cells
length-cells before [] = refl
length-cells before (bit ∷ bits) = omega (arith, length-cells bit bits)

-- the cells of bits are 0 or 1
pub cells_are : (before : ℕ) (bits : List ℕ) → ((i : ℕ) → get_or bits i 0 < 2) → (i : ℕ) → get_or (bit_cells before bits) i 0 < 2
unfolding bit_cells
cells_are before [] h i = omega arith
cells_are before (bit ∷ bits) h zero = clock-lt before bit
cells_are before (bit ∷ bits) h (suc zero) = h 0
cells_are before (bit ∷ bits) h (suc (suc i)) = cells_are bit bits (λ j. h (suc j)) i

joined : (xs ys : List ℕ) → ((i : ℕ) → get_or xs i 0 < 2) → ((i : ℕ) → get_or ys i 0 < 2) → (i : ℕ) → get_or (xs ++ ys) i 0 < 2
joined [] ys h g i = g i
joined (x ∷ xs) ys h g zero = h 0
joined (x ∷ xs) ys h g (suc i) = joined xs ys (λ j. h (suc j)) g i

pub of-byte : (byte i : ℕ) → get_or (listed (bit_of byte) 8) i 0 < 2
unfolding listed
of-byte byte zero = omega arith
of-byte byte (suc zero) = omega arith
of-byte byte (suc (suc zero)) = omega arith
of-byte byte (suc (suc (suc zero))) = omega arith
of-byte byte (suc (suc (suc (suc zero)))) = omega arith
of-byte byte (suc (suc (suc (suc (suc zero))))) = omega arith
of-byte byte (suc (suc (suc (suc (suc (suc zero)))))) = omega arith
of-byte byte (suc (suc (suc (suc (suc (suc (suc zero))))))) = omega arith
of-byte byte (suc (suc (suc (suc (suc (suc (suc (suc i)))))))) = omega arith

pub bits_are : (bytes : List ℕ) (i : ℕ) → get_or (data_bits bytes) i 0 < 2
unfolding data_bits
bits_are [] i = omega arith
bits_are (byte ∷ bytes) i = joined (listed (bit_of byte) 8) (data_bits bytes) (of-byte byte) (bits_are bytes) i

-- the data cell of a bit is the bit
pub data-cell : (before : ℕ) (bits : List ℕ) (i : ℕ) → get_or (bit_cells before bits) (2 * i + 1) 0 ≡ get_or bits i 0
unfolding bit_cells
data-cell before [] i = refl
data-cell before (bit ∷ bits) zero = refl
data-cell before (bit ∷ bits) (suc i) =
    let s : 2 * suc i + 1 ≡ suc (suc (2 * i + 1)) = omega arith in
    rw s (data-cell bit bits i)

-- bit j of byte i
pub data-bit : (bytes : List ℕ) (i j : ℕ) → i < length bytes → j < 8 → get_or (data_bits bytes) (8 * i + j) 0 ≡ bit_of (get_or bytes i 0) j
unfolding data_bits
data-bit [] i j h l = absurd (omega arith)
data-bit (byte ∷ bytes) zero j h l =
    let n = length-listed (bit_of byte) 8 in
    let z : 8 * 0 + j ≡ j = omega arith in
    rw z (get_or-append (listed (bit_of byte) 8) (data_bits bytes) 0 j (omega arith) ∙ get_d-listed (bit_of byte) 0 8 j l)
data-bit (byte ∷ bytes) (suc i) j h l =
    let s : 8 * suc i + j ≡ length (listed (bit_of byte) 8) + (8 * i + j) = omega (arith, length-listed (bit_of byte) 8) in
    rw s (get_or-append-add (listed (bit_of byte) 8) (data_bits bytes) (8 * i + j) 0 ∙ data-bit bytes i j (omega arith) l)

-- the last of some bits, or the bit before where there are none
abbrev pub last_bit : ℕ → List ℕ → ℕ
last_bit before [] = before
last_bit before (bit ∷ bits) = last_bit bit bits

pub cells-append : (before : ℕ) (xs ys : List ℕ) → bit_cells before (xs ++ ys) ≡ bit_cells before xs ++ bit_cells (last_bit before xs) ys
unfolding bit_cells
cells-append before [] ys = refl
cells-append before (x ∷ xs) ys = rw (cells-append x xs ys)

pub last-of-byte : (before byte : ℕ) → last_bit before (listed (bit_of byte) 8) ≡ byte % 2
unfolding listed
last-of-byte before byte = omega arith
