-- `Steps::entry` meets its contract: the table has its rule at each index. Assumes nothing.
use Prim.Native.Nat.{ℕ, zero, suc, ◌+◌, ◌*◌, ◌/◌, ◌%◌, ◌^◌, ◌<◌}
use mathlib.Core.Path.{◌≡◌, refl, ap, ◌∙◌}
use native.Mathlib.Omega.{arith}
use Rattle.basis.specs.Lists.{listed}
use Rattle.basis.proofs.Tables.{entry-of}
use Rattle.crc.specs.PrivateContracts.{after_zeros, step_entry, step_table}
use Rattle.crc.proofs.Linear.{zeros-lt}
use Rattle.crc.proofs.Steps.entry.Goals as goal

table_is : step_table ≡ listed step_entry 256
unfolding step_table
table_is = refl

-- four numbers of 16 bits, and each of them
field : (a b c d k : ℕ) → a < 65536 → b < 65536 → c < 65536 → d < 65536 → (e : ℕ) → e ≡ a * 2 ^ 48 + (b * 2 ^ 32 + (c * 2 ^ 16 + d))
    → (e / 2 ^ (16 * 0) % 65536 ≡ d) × (e / 2 ^ (16 * 1) % 65536 ≡ c) × (e / 2 ^ (16 * 2) % 65536 ≡ b) × (e / 2 ^ (16 * 3) % 65536 ≡ a)
field a b c d k la lb lc ld e g = (omega arith, omega arith, omega arith, omega arith)

field_is : (high more : ℕ) → more < 4 → step_entry high / 2 ^ (16 * more) % 65536 ≡ after_zeros (more + 1) (high * 256)
unfolding step_entry
field_is high more h = go more h
  where
    w : ℕ
    w = high * 256

    four : (step_entry high / 2 ^ (16 * 0) % 65536 ≡ after_zeros 1 w) × (step_entry high / 2 ^ (16 * 1) % 65536 ≡ after_zeros 2 w)
        × (step_entry high / 2 ^ (16 * 2) % 65536 ≡ after_zeros 3 w) × (step_entry high / 2 ^ (16 * 3) % 65536 ≡ after_zeros 4 w)
    four = field (after_zeros 4 w) (after_zeros 3 w) (after_zeros 2 w) (after_zeros 1 w) 0 (zeros-lt 3 w) (zeros-lt 2 w) (zeros-lt 1 w) (zeros-lt 0 w) (step_entry high) refl

    go : (more : ℕ) → more < 4 → step_entry high / 2 ^ (16 * more) % 65536 ≡ after_zeros (more + 1) w
    go zero l = four.0
    go (suc zero) l = four.1
    go (suc (suc zero)) l = four.2
    go (suc (suc (suc zero))) l = four.3
    go (suc (suc (suc (suc m)))) l = absurd (omega arith)

pub returns : goal.returns
returns c =
    let s = c in
    let e = entry-of c.args.self.table.now step_entry 256 (rw c.args.self.is table_is) c.args.high c.requires.0 in
    rw c.from.ensures (ap (λ (x : ℕ). x / 2 ^ (16 * c.args.more) % 65536) e) ∙ field_is c.args.high c.args.more c.requires.1
