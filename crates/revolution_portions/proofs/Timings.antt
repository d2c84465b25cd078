-- The timings that end in bytes, taken byte by byte with at most 7 zeros counted, beside those of the bytes' values: they are as many, the
-- same is the first out of range, and where none is they are the same. Assumes nothing.
use Prim.Native.Nat.{ℕ, suc, ◌+◌, ◌*◌, ◌≤◌, ◌<◌, min}
use mathlib.Core.Path.{◌≡◌, refl, sym, ◌∙◌, ap}
use mathlib.Core.Bool.{Bool, true, false, cond}
use mathlib.Core.List.{List, [], ◌∷◌, ◌++◌, append_assoc}
use native.Mathlib.Decide.{dec_le, ℕ_discrete}
use native.Mathlib.Nat.{lt_of_not-le, min-eq_left, min-eq_right}
use native.Mathlib.Omega.{arith}
use borrow.Author.Tests.{eq-eqb, ne_eqb, le-leb, lt-leb}
use lib.Dec.{eqb}
use lib.ListN.{length, length-append}
use Rattle.flux_timings.specs.Timings.{in_range}
use Rattle.flux_timings.specs.Timings.{first_out}
use Rattle.revolution_values.specs.Values.{unfinished_after_value, unfinished_after_byte, timings_of_value, timings_of_byte, unfinished_after, timings_ending, between}
use Rattle.revolution_portions.specs.Timings.{values_of, timings_from, timings_in}
use Rattle.std.specs.Prelude.{Option, Some, None}
use Rattle.revolution_values.specs.declared.Unfinished.{Unfinished}
use Rattle.revolution_values.proofs.Passing.{zero-ends, zero-leaves, other-ends, other-leaves, one-timing, zeros-few}

-- one portion after another
pub after-append : (u : Unfinished) (a b : List ℕ) → unfinished_after u (a ++ b) ≡ unfinished_after (unfinished_after u a) b
unfolding unfinished_after
after-append u [] b = refl
after-append u (byte ∷ a) b = after-append (unfinished_after_byte u.held u.zeros byte) a b

pub ending-append : (u : Unfinished) (a b : List ℕ) → timings_ending u (a ++ b) ≡ timings_ending u a ++ timings_ending (unfinished_after u a) b
unfolding unfinished_after timings_ending
ending-append u [] b = refl
ending-append u (byte ∷ a) b =
    let next = unfinished_after_byte u.held u.zeros byte in
    let first = timings_of_byte u.held u.zeros byte in
    ap (λ (l : List ℕ). first ++ l) (ending-append next a b) ∙ sym (append_assoc first (timings_ending next a) (timings_ending (unfinished_after next a) b))

-- timings that are the same, but that those out of range may differ
pub data Alike : List ℕ → List ℕ → Type 0 where
  none : Alike [] []
  also : {t s : ℕ} {ts ss : List ℕ} → in_range t ≡ in_range s → (in_range t ≡ true → t ≡ s) → Alike ts ss → Alike (t ∷ ts) (s ∷ ss)

pub alike-length : {ts ss : List ℕ} → Alike ts ss → length ts ≡ length ss
alike-length none = refl
alike-length (also r e a) = ap suc (alike-length a)

pub alike-out : {ts ss : List ℕ} → Alike ts ss → first_out ts ≡ first_out ss
unfolding first_out
alike-out none = refl
alike-out (also r e a) = rw (r, alike-out a)

pub alike_same : {ts ss : List ℕ} → Alike ts ss → first_out ts ≡ length ts → ts ≡ ss
unfolding first_out
alike_same none all = refl
alike_same (also {t} {s} {ts} {ss} r e a) all = go (in_range t) refl all (alike_same a)
  where
    go : (x : Bool) → in_range t ≡ x → cond x (suc (first_out ts)) 0 ≡ suc (length ts) → (first_out ts ≡ length ts → ts ≡ ss) → t ∷ ts ≡ s ∷ ss
    go true i all more = rw (e i, more (omega arith))
    go false i all more = absurd (omega arith)

out_of_range : (t : ℕ) → 10000000 < t → in_range t ≡ false
unfolding in_range
out_of_range t h = rw (lt-leb t 10000000 h, le-leb 1 t (omega arith))

-- a timing after z zeros, of which 7 are counted at most
one_alike : (z v : ℕ) → (in_range (25 * (65536 * min z 7 + v)) ≡ in_range (25 * (65536 * z + v)))
    × (in_range (25 * (65536 * min z 7 + v)) ≡ true → 25 * (65536 * min z 7 + v) ≡ 25 * (65536 * z + v))
one_alike z v = go (dec_le z 7)
  where
    go : Dec (z ≤ 7) → (in_range (25 * (65536 * min z 7 + v)) ≡ in_range (25 * (65536 * z + v)))
        × (in_range (25 * (65536 * min z 7 + v)) ≡ true → 25 * (65536 * min z 7 + v) ≡ 25 * (65536 * z + v))
    go (yes h) = let e = min-eq_left h in rw e (refl, (λ _. refl))
    go (no h) =
        let l : 7 < z = lt_of_not-le h in
        let e : min z 7 ≡ 7 = min-eq_right (omega arith) in
        let a : in_range (25 * (65536 * 7 + v)) ≡ false = out_of_range _ (omega arith) in
        let b : in_range (25 * (65536 * z + v)) ≡ false = out_of_range _ (omega arith) in
        rw (e, a, b) (refl, (λ x. let n : ◌≡◌ {A = ℕ} 0 1 = cc in absurd (omega arith)))

capped-more : (z : ℕ) → min (min z 7 + 1) 7 ≡ min (z + 1) 7
capped-more z = go (dec_le z 7)
  where
    go : Dec (z ≤ 7) → min (min z 7 + 1) 7 ≡ min (z + 1) 7
    go (yes h) = rw (min-eq_left h)
    go (no h) =
        let l : 7 < z = lt_of_not-le h in
        let e : min z 7 ≡ 7 = min-eq_right (omega arith) in
        let f : min (z + 1) 7 ≡ 7 = min-eq_right (omega arith) in
        rw (e, f)

-- two bytes more
two-bytes-ending : (z high low : ℕ) (bytes : List ℕ)
    → timings_ending (between z) (high ∷ low ∷ bytes) ≡ timings_of_value z (256 * high + low) ++ timings_ending (unfinished_after_value z (256 * high + low)) bytes
unfolding timings_ending
two-bytes-ending z high low bytes = refl

pub capped : (z : ℕ) (bytes : List ℕ) → Alike (timings_ending (between (min z 7)) bytes) (timings_from (65536 * z) (values_of bytes))
unfolding timings_ending timings_from values_of
capped z [] = none
capped z (high ∷ []) = none
capped z (high ∷ low ∷ bytes) = go (ℕ_discrete (256 * high + low) 0) (capped (z + 1) bytes) (capped 0 bytes)
  where
    go : Dec (256 * high + low ≡ 0) → Alike (timings_ending (between (min (z + 1) 7)) bytes) (timings_from (65536 * (z + 1)) (values_of bytes))
        → Alike (timings_ending (between 0) bytes) (timings_from 0 (values_of bytes))
        → Alike (timings_ending (between (min z 7)) (high ∷ low ∷ bytes))
        (cond (eqb (256 * high + low) 0) (timings_from (65536 * z + 65536) (values_of bytes)) (25 * (65536 * z + (256 * high + low)) ∷ timings_from 0 (values_of bytes)))
    go (yes e) zero other =
        let a : timings_ending (between (min z 7)) (high ∷ low ∷ bytes) ≡ timings_ending (between (min (z + 1) 7)) bytes
        = rw (two-bytes-ending (min z 7) high low bytes, zero-ends (min z 7) (256 * high + low) e, zero-leaves (min z 7) (256 * high + low) e, capped-more z) in
        let b : 65536 * z + 65536 ≡ 65536 * (z + 1) = omega arith in
        rw (a, eq-eqb (256 * high + low) 0 e, b) zero
    go (no e) zero other =
        let a : timings_ending (between (min z 7)) (high ∷ low ∷ bytes) ≡ 25 * (65536 * min z 7 + (256 * high + low)) ∷ timings_ending (between 0) bytes
        = rw (two-bytes-ending (min z 7) high low bytes, other-ends (min z 7) (256 * high + low) e, other-leaves (min z 7) (256 * high + low) e) in
        let o = one_alike z (256 * high + low) in
        rw (a, ne_eqb (256 * high + low) 0 e) (also o.0 o.1 other)

-- from the start of a revolution
pub from_start : (bytes : List ℕ) → Alike (timings_ending (between 0) bytes) (timings_in bytes)
from_start bytes = capped 0 bytes

-- zeros stay few
pub zeros-stay-few : (u : Unfinished) (bytes : List ℕ) → u.zeros ≤ 7 → (unfinished_after u bytes).zeros ≤ 7
unfolding unfinished_after
zeros-stay-few u [] h = h
zeros-stay-few u (byte ∷ bytes) h = zeros-stay-few (unfinished_after_byte u.held u.zeros byte) bytes (one_byte u.held)
  where
    one_byte : (held : Option ℕ) → (unfinished_after_byte held u.zeros byte).zeros ≤ 7
    one_byte None = h
    one_byte (Some high) = zeros-few u.zeros (256 * high + byte)

-- no more timings end than values do: at most one with each two bytes, the one that is held among them
abbrev bytes_held : Option ℕ → ℕ
bytes_held None = 0
bytes_held (Some high) = 1

nothing-held-after : (zeros value : ℕ) → bytes_held (unfinished_after_value zeros value).held ≡ 0
unfolding unfinished_after_value
nothing-held-after _ value = refl

ending-few-held : (u : Unfinished) (bytes : List ℕ) → 2 * length (timings_ending u bytes) ≤ length bytes + bytes_held u.held
unfolding timings_ending
ending-few-held u [] = omega arith
ending-few-held u (byte ∷ bytes) = go u.held (ending-few-held (unfinished_after_byte u.held u.zeros byte) bytes)
  where
    go : (held : Option ℕ)
        → 2 * length (timings_ending (unfinished_after_byte held u.zeros byte) bytes) ≤ length bytes + bytes_held (unfinished_after_byte held u.zeros byte).held
        → 2 * length (timings_of_byte held u.zeros byte ++ timings_ending (unfinished_after_byte held u.zeros byte) bytes) ≤ suc (length bytes) + bytes_held held
    go None h = omega (arith, h)
    go (Some high) h =
        let v = 256 * high + byte in
        let n : bytes_held (unfinished_after_value u.zeros v).held ≡ 0 = nothing-held-after u.zeros v in
        omega (arith, h, n, one-timing u.zeros v, length-append (timings_of_value u.zeros v) (timings_ending (unfinished_after_value u.zeros v) bytes))

pub ending-few : (u : Unfinished) (bytes : List ℕ) → 2 * length (timings_ending u bytes) ≤ length bytes + 1
ending-few u bytes = go u.held (ending-few-held u bytes)
  where
    go : (held : Option ℕ) → 2 * length (timings_ending u bytes) ≤ length bytes + bytes_held held → 2 * length (timings_ending u bytes) ≤ length bytes + 1
    go None h = omega arith
    go (Some high) h = h
