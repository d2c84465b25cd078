-- What `with_one` and `cleared` do to the cells of a buffer. Assumes nothing.
use Prim.Native.Nat.{ℕ, zero, suc, ◌-◌, ◌/◌, ◌%◌, ◌^◌, ◌<◌, max}
use mathlib.Core.Path.{◌≡◌, refl, ap, ◌∙◌}
use mathlib.Core.Bool.{Bool, true, false, cond}
use mathlib.Core.List.{List}
use native.Mathlib.Decide.{ℕ_discrete}
use native.Mathlib.Omega.{arith}
use borrow.Author.Tests.{eq-eqb, ne_eqb}
use lib.Bits.{bit_or, or_shr, or_step}
use lib.Dec.{T, eqb, eqb→eq, ltb, ltb→lt}
use lib.ListN.{length, get_or, set}
use lib.Seq.{get_or-set_same, get_or-set_other}
use Rattle.basis.proofs.Tables.{below_both, passes-both}
use Rattle.cells.specs.CellsAndBytes.{bit_of, cell_at, with_one}

-- the lowest bit of two numbers or-ed
larger-small : (x y : ℕ) → x < 2 → y < 2 → max x y < 2
larger-small x y h l = ltb→lt (max x y) 2 (passes-both (λ a b. ltb (max a b) 2) 2 2 tt x y h l)

or-lowest : (a b : ℕ) → bit_or a b % 2 ≡ max (a % 2) (b % 2)
or-lowest a b = omega (arith, or_step a b, larger-small (a % 2) (b % 2) (omega arith) (omega arith))

-- the weight of bit a of a byte has bit b exactly where the two are the same
weight-bit : ℕ → ℕ → Bool
weight-bit a b = eqb (bit_of (2 ^ (7 - a)) b) (cond (eqb b a) 1 0)

all-weights : T (below_both weight-bit 8 8)
unfolding weight-bit
all-weights = tt

bit-of-weight : (a b : ℕ) → a < 8 → b < 8 → bit_of (2 ^ (7 - a)) b ≡ cond (eqb b a) 1 0
unfolding weight-bit
bit-of-weight a b h l = eqb→eq _ _ (passes-both weight-bit 8 8 all-weights a b h l)

larger-one : (x : ℕ) → x < 2 → max x 1 ≡ 1
larger-one zero h = refl
larger-one (suc zero) h = refl
larger-one (suc (suc x)) h = absurd (omega arith)

larger-none : (x : ℕ) → x < 2 → max x 0 ≡ x
larger-none zero h = refl
larger-none (suc zero) h = refl
larger-none (suc (suc x)) h = absurd (omega arith)

bit-or : (byte a b : ℕ) → a < 8 → b < 8 → bit_of (bit_or byte (2 ^ (7 - a))) b ≡ cond (eqb b a) 1 (bit_of byte b)
bit-or byte a b h l = rw (or_shr byte (2 ^ (7 - a)) (7 - b), or-lowest (byte / 2 ^ (7 - b)) (2 ^ (7 - a) / 2 ^ (7 - b)), bit-of-weight a b h l) (go (eqb b a))
  where
    go : (t : Bool) → max (bit_of byte b) (cond t 1 0) ≡ cond t 1 (bit_of byte b)
    go true = larger-one (bit_of byte b) (omega arith)
    go false = larger-none (bit_of byte b) (omega arith)

-- `with_one`: cell p is 1, where the buffer has it, and every other cell is kept
pub cell-with-one : (bytes : List ℕ) (p i : ℕ) → p / 8 < length bytes → cell_at (with_one bytes p) i ≡ cond (eqb i p) 1 (cell_at bytes i)
unfolding cell_at with_one
cell-with-one bytes p i h = go (ℕ_discrete (i / 8) (p / 8))
  where
    same : i / 8 ≡ p / 8 → Dec (i ≡ p) → cond (eqb (i % 8) (p % 8)) 1 (bit_of (get_or bytes (p / 8) 0) (i % 8)) ≡ cond (eqb i p) 1 (bit_of (get_or bytes (i / 8) 0) (i % 8))
    same e (yes f) = let m : i % 8 ≡ p % 8 = omega arith in rw (eq-eqb i p f, eq-eqb (i % 8) (p % 8) m)
    same e (no f) = rw (ne_eqb i p f, ne_eqb (i % 8) (p % 8) (λ m. f (omega arith)), e)

    go : Dec (i / 8 ≡ p / 8) → bit_of (get_or (set bytes (p / 8) (bit_or (get_or bytes (p / 8) 0) (2 ^ (7 - p % 8)))) (i / 8) 0) (i % 8) ≡ cond (eqb i p) 1 (bit_of (get_or bytes (i / 8) 0) (i % 8))
    go (yes e) =
        ap (λ (k : ℕ). bit_of (get_or (set bytes (p / 8) (bit_or (get_or bytes (p / 8) 0) (2 ^ (7 - p % 8)))) k 0) (i % 8)) e
        ∙ ap (λ (x : ℕ). bit_of x (i % 8)) (get_or-set_same bytes (p / 8) (bit_or (get_or bytes (p / 8) 0) (2 ^ (7 - p % 8))) 0 h)
        ∙ bit-or (get_or bytes (p / 8) 0) (p % 8) (i % 8) (omega arith) (omega arith) ∙ same e (ℕ_discrete i p)
    go (no f) =
        rw (get_or-set_other bytes (p / 8) (i / 8) (bit_or (get_or bytes (p / 8) 0) (2 ^ (7 - p % 8))) 0 f, ne_eqb i p (λ e. f (omega arith)))
