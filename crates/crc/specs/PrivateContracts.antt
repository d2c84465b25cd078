-- What only the contracts of private functions need: the table by which four bytes are taken at a time. Assumes nothing.
use Rattle.std.specs.Prelude.{ℕ, zero, suc, ◌+◌, ◌*◌, ◌^◌, List}
use Rattle.basis.specs.Lists.{listed}
use Rattle.crc.specs.CheckWord.{after_byte}

-- the check word w after k zero bytes
unfoldable pub after_zeros : ℕ → ℕ → ℕ
after_zeros zero w = w
after_zeros (suc k) w = after_byte (after_zeros k w) 0

-- entry i of the table: the check word whose high byte is i and whose low byte is 0, after one zero byte, and in higher bits after two, three and four
unfoldable pub step_entry : ℕ → ℕ
step_entry high =
    after_zeros 4 (high * 256) * 2 ^ 48 + (after_zeros 3 (high * 256) * 2 ^ 32 + (after_zeros 2 (high * 256) * 2 ^ 16 + after_zeros 1 (high * 256)))

unfoldable pub step_table : List ℕ
step_table = listed step_entry 256
