-- The reader of a revolution as a number: each number gives a reader, the number of a reader that calls leave gives it back, and so calls by
-- numbers are calls. Assumes nothing.
use Prim.Native.Nat.{ℕ, ◌+◌, ◌-◌, ◌*◌, ◌/◌, ◌%◌, ◌≤◌, ◌<◌}
use mathlib.Core.Path.{◌≡◌, refl, sym, ◌∙◌, subst}
use mathlib.Core.Bool.{true}
use mathlib.Core.List.{List, [], ◌∷◌, ◌++◌}
use native.Mathlib.Omega.{arith}
use native.Mathlib.Decide.{ℕ_discrete}
use borrow.Author.Tests.{eq-eqb, ne_eqb}
use Rattle.refusals.specs.RefusedCalls.{Answer}
use Rattle.refusals.specs.RefusedCalls.Answer.{gives}
use Rattle.revolution_values.specs.Values.{unfinished_after_value, unfinished_after_byte, unfinished_after}
use Rattle.revolution_portions.specs.Portions.{is_left_by_calls, usable_reader, portion_timings, portion_answer, reader_left, portion_reader, Calls, AllTimings}
use Rattle.revolution_portions.specs.Portions.Calls.{none as no_call, more as one_more}
use Rattle.basis.specs.Bytes.{AreBytes}
use Rattle.reader_as_number.specs.Numbers.{held_number, held_from, number_of_parts, number_of_reader, reader_of_number, NumberCalls, AllByNumber}
use Rattle.reader_as_number.specs.Numbers.NumberCalls.{none, more}
use Rattle.std.specs.Prelude.{Option, Some, None}
use Rattle.revolution_portions.specs.declared.RevolutionReader.{RevolutionReader}
use Rattle.revolution_values.specs.declared.Unfinished.{Unfinished}
use Rattle.revolution_portions.proofs.Judging.{usable-few, is-left}
use Rattle.revolution_portions.proofs.History.{as-it-is, behind-calls}

-- what is held is a byte
abbrev pub HeldByte : Option ℕ → Type 0
HeldByte None = Unit
HeldByte (Some high) = high < 256

held_back : (held : Option ℕ) → HeldByte held → (held_from (held_number held) ≡ held) × (held_number held < 257)
held_back None h = (refl, omega arith)
held_back (Some high) h =
    let e : high + 1 - 1 ≡ high = omega arith in
    (rw (ne_eqb (high + 1) 0 (λ z. omega (arith, z)), e), omega arith)

-- the three parts of a number
part-0 : (a z t : ℕ) → a < 257 → (a + 257 * (z + 8 * t)) % 257 ≡ a
part-0 a z t h = omega arith

part-1 : (a z t : ℕ) → a < 257 → (a + 257 * (z + 8 * t)) / 257 ≡ z + 8 * t
part-1 a z t h = omega arith

pub read_back : (reader : RevolutionReader) → HeldByte (usable_reader reader).unfinished.held → reader_of_number (number_of_reader reader) ≡ usable_reader reader
unfolding number_of_reader reader_of_number
read_back reader h = back (usable_reader reader) h (usable-few reader).0
  where
    back : (r : RevolutionReader) → HeldByte r.unfinished.held → r.unfinished.zeros ≤ 7
        → record {
          unfinished = record { held = held_from (number_of_parts r % 257); zeros = number_of_parts r / 257 % 8 };
          timings = number_of_parts r / 257 / 8;
        }
        ≡ r
    back r h few =
        let b = held_back r.unfinished.held h in
        let a = held_number r.unfinished.held in
        let z = r.unfinished.zeros in
        let t = r.timings in
        let p = part-0 a z t b.1 in
        let q = part-1 a z t b.1 in
        let m : (z + 8 * t) % 8 ≡ z = omega arith in
        let d : (z + 8 * t) / 8 ≡ t = omega arith in
        rw (p, q, m, d, b.0)

-- bytes leave a byte held, or nothing
held_after : (u : Unfinished) (bytes : List ℕ) → HeldByte u.held → AreBytes bytes → HeldByte (unfinished_after u bytes).held
unfolding unfinished_after unfinished_after_value
held_after u [] h b = h
held_after u (byte ∷ bytes) h b = held_after (unfinished_after_byte u.held u.zeros byte) bytes (one u.held) b.1
  where
    one : (held : Option ℕ) → HeldByte (unfinished_after_byte held u.zeros byte).held
    one None = b.0
    one (Some high) = tt

-- the reader that calls leave is used as it is
left-as-is : {reader : RevolutionReader} {bytes given : List ℕ} → Calls reader bytes given → usable_reader reader ≡ reader
left-as-is {reader} calls =
    let b = behind-calls calls in
    as-it-is reader (is-left reader b.few_zeros b.few_timings)

-- calls that keep the reader as a number are calls
module _ (n : ℕ) (bytes given portion : List ℕ) (room count : ℕ) (calls : Calls (reader_of_number n) bytes given) (byte : HeldByte (reader_of_number n).unfinished.held)
    (portion-is : AreBytes portion) (answer : portion_answer (reader_of_number n) portion room ≡ gives count) where
  abbrev next : RevolutionReader
  next = portion_reader (reader_of_number n) portion room

  next-calls : Calls next (bytes ++ portion) (given ++ portion_timings (reader_of_number n) portion)
  next-calls = one_more portion room count calls answer

  next-byte : HeldByte next.unfinished.held
  unfolding reader_left
  next-byte =
      rw (answer, left-as-is calls) (held_after (reader_of_number n).unfinished portion byte portion-is)

  same_next : reader_of_number (number_of_reader next) ≡ next
  same_next =
      let e = left-as-is next-calls in
      read_back next (subst (λ (r : RevolutionReader). HeldByte r.unfinished.held) (sym e) next-byte) ∙ e

  next-by-number : Calls (reader_of_number (number_of_reader next)) (bytes ++ portion) (given ++ portion_timings (reader_of_number n) portion)
      × HeldByte (reader_of_number (number_of_reader next)).unfinished.held
  next-by-number =
      subst
      (λ (r : RevolutionReader). Calls r (bytes ++ portion) (given ++ portion_timings (reader_of_number n) portion) × HeldByte r.unfinished.held)
      (sym same_next)
      (next-calls, next-byte)

calls-and-byte : {n : ℕ} {bytes given : List ℕ} → NumberCalls n bytes given → Calls (reader_of_number n) bytes given × HeldByte (reader_of_number n).unfinished.held
unfolding reader_of_number
calls-and-byte none = (no_call, tt)
calls-and-byte (more {n} {bytes} {given} portion room count calls portion-is answer) =
    let c = calls-and-byte calls in
    next-by-number n bytes given portion room count c.0 c.1 portion-is answer

pub calls-by-numbers : {n : ℕ} {bytes given : List ℕ} → NumberCalls n bytes given → Calls (reader_of_number n) bytes given
calls-by-numbers calls = (calls-and-byte calls).0

-- so what is promised of a reader is promised of its number
pub all-by-number : (n : ℕ) (portion : List ℕ) (answer : Answer ℕ) (list : List ℕ) → AllTimings (reader_of_number n) portion answer list → AllByNumber n portion answer list
all-by-number n portion answer list all = record { same = λ bytes given calls count e. all.same bytes given (calls-by-numbers calls) count e }

-- and each number is that of its reader, where calls leave the reader
held-is : (m : ℕ) → held_number (held_from m) ≡ m
held-is m = go (ℕ_discrete m 0)
  where
    go : Dec (m ≡ 0) → held_number (held_from m) ≡ m
    go (yes z) = rw (eq-eqb m 0 z) (sym z)
    go (no z) = rw (ne_eqb m 0 z) (omega (arith, z))

parts-back : (n : ℕ) → number_of_parts (reader_of_number n) ≡ n
unfolding reader_of_number
parts-back n = rw (held-is (n % 257)) (omega arith)

pub number-back : (n : ℕ) → is_left_by_calls (reader_of_number n) ≡ true → number_of_reader (reader_of_number n) ≡ n
unfolding number_of_reader
number-back n e = rw (as-it-is (reader_of_number n) e) (parts-back n)
