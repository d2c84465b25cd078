-- `crc::after_high` meets its contract, as one computation says of all 256 bytes. Assumes nothing.
use Prim.Native.Nat.{ℕ, ◌*◌, ◌/◌, ◌%◌, ◌<◌}
use mathlib.Core.Path.{◌≡◌}
use mathlib.Core.Bool.{Bool}
use lib.Bits.{bit_xor}
use lib.Dec.{T, eqb, eqb→eq}
use Rattle.basis.proofs.Tables.{below, passes-below}
use Rattle.crc.specs.CheckWord.{after_bit, after_bits, after_byte}
use Rattle.crc.specs.PrivateContracts.{after_zeros}
use Rattle.crc.proofs.after_high.Goals as goal

abbrev swept : ℕ → ℕ
swept high =
    bit_xor (bit_xor (bit_xor high (high / 16) * 4096 % 65536) (bit_xor high (high / 16) * 32 % 65536)) (bit_xor high (high / 16))

agrees : ℕ → Bool
agrees high = eqb (swept high) (after_zeros 1 (high * 256))

all : T (below agrees 256)
unfolding agrees after_zeros after_byte after_bits after_bit
all = tt

swept-is : (high : ℕ) → high < 256 → swept high ≡ after_zeros 1 (high * 256)
unfolding agrees
swept-is high h = eqb→eq (swept high) (after_zeros 1 (high * 256)) (passes-below agrees 256 all high h)

pub returns : goal.returns
returns c = swept-is c.args.high c.requires
