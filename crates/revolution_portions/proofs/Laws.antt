-- What follows from the definitions of the portions.
--
--   left-few         after an accepted portion at most 7 zeros are counted, and at most 65,536 timings
--   accepted-left    so the reader that it leaves is one that calls leave
--   left-exactly     calls leave the states of which `is_left_by_calls` is true, and no others (rule 12.19)
--   counted          a reader that calls left counts the timings that they gave
--   given-same       what calls gave is the timings of their bytes
--
-- Assumes nothing.
use Prim.Native.Nat.{ℕ, zero, suc, ◌+◌, ◌≤◌, min}
use mathlib.Core.Path.{◌≡◌, refl, sym, ◌∙◌, ap, subst}
use mathlib.Core.Bool.{Bool, true, false, ◌&&◌}
use mathlib.Core.List.{List, [], ◌∷◌}
use native.Mathlib.Nat.{add-zero, min-eq_left}
use native.Mathlib.Numerals.{add-one}
use native.Mathlib.Omega.{arith}
use borrow.Author.Tests.{leb-true}
use lib.Dec.{leb}
use lib.ListN.{length, length-append}
use Rattle.flux_timings.specs.Timings.{in_range}
use Rattle.flux_timings.specs.Timings.{first_out}
use Rattle.refusals.specs.RefusedCalls.{Answer}
use Rattle.refusals.specs.RefusedCalls.Answer.{gives}
use Rattle.revolution_values.specs.Values.{unfinished_after_value, timings_of_value, unfinished_after, timings_ending, between}
use Rattle.revolution_portions.specs.Timings.{timings_in}
use Rattle.revolution_portions.specs.Portions.{is_left_by_calls, usable_reader, portion_timings, portion_answer, reader_left, portion_reader, Calls}
use Rattle.revolution_portions.specs.Portions.Calls.{none, more}
use Rattle.std.specs.Prelude.{Option, Some, None}
use Rattle.revolution_portions.specs.declared.RevolutionReader.{RevolutionReader}
use Rattle.revolution_values.specs.declared.Unfinished.{Unfinished}
use Rattle.revolution_portions.proofs.History.{behind-calls}
use Rattle.revolution_portions.proofs.Judging.{is-left, used-as-is, usable-few, all-given, accepted}
use Rattle.revolution_portions.proofs.Timings.{alike_same, from_start, zeros-stay-few}

-- an accepted portion leaves few zeros and few timings, whatever reader came
module _ (reader : RevolutionReader) (portion : List ℕ) (room count : ℕ) (answer : portion_answer reader portion room ≡ gives count) where
  pub left-few : ((reader_left (gives count) reader portion).unfinished.zeros ≤ 7) × ((reader_left (gives count) reader portion).timings ≤ 65536)
  unfolding reader_left
  left-few =
      let used = usable-few reader in
      let a = accepted (usable_reader reader).timings (portion_timings reader portion) room count answer in
      (zeros-stay-few (usable_reader reader).unfinished portion used.0, omega (arith, a.few, a.count_is))

  -- so it leaves a state that calls leave
  pub accepted-left : is_left_by_calls (reader_left (gives count) reader portion) ≡ true
  accepted-left = is-left (reader_left (gives count) reader portion) left-few.0 left-few.1

-- calls leave only states of which `is_left_by_calls` is true
pub calls-leave : {reader : RevolutionReader} {bytes given : List ℕ} → Calls reader bytes given → is_left_by_calls reader ≡ true
calls-leave {reader} calls = let b = behind-calls calls in is-left reader b.few_zeros b.few_timings

-- a reader that calls leave: all bytes that they were handed, and all timings that they gave
pub record LeftByCalls (reader : RevolutionReader) : Type 0 where
  pub bytes : List ℕ
  pub given : List ℕ
  pub calls : Calls reader bytes given

-- one portion more, with room for just its timings
module _ (u : Unfinished) (n : ℕ) (few_zeros : u.zeros ≤ 7) (portion : List ℕ) where
  abbrev ts : List ℕ
  ts = timings_ending u portion

  abbrev at : RevolutionReader
  at = record { unfinished = u; timings = n }

  one_more : n + length ts ≤ 65536 → length ts ≤ first_out ts → LeftByCalls at
      → LeftByCalls (record { unfinished = unfinished_after u portion; timings = n + length ts })
  unfolding reader_left
  one_more few all_in l =
      let used : usable_reader at ≡ at = sym (used-as-is at few_zeros (omega arith)) in
      let answer : portion_answer at portion (length ts) ≡ gives (length ts) = rw used (sym (all-given n ts (length ts) few all_in (omega arith))) in
      let left : portion_reader at portion (length ts) ≡ record { unfinished = unfinished_after u portion; timings = n + length ts }
      = ap (λ (a : Answer ℕ). reader_left a at portion) answer ∙ rw used in
      subst (λ (r : RevolutionReader). LeftByCalls r) left
      (record { bytes = _; given = _; calls = more portion (length ts) (length ts) l.calls answer })

-- n timings: n portions with the value 1. Then z zeros: z portions with the value 0
after-timings : (n : ℕ) → n ≤ 65536 → LeftByCalls (record { unfinished = between 0; timings = n })
unfolding unfinished_after timings_ending unfinished_after_value timings_of_value first_out in_range
after-timings zero h = record { bytes = _; given = _; calls = none }
after-timings (suc n) h = rw (← add-one n) (one_more (between 0) n (omega arith) (0 ∷ 1 ∷ []) (omega arith) (omega arith) (after-timings n (omega arith)))

after-zeros : (z n : ℕ) → z ≤ 7 → n ≤ 65536 → LeftByCalls (record { unfinished = between z; timings = n })
unfolding unfinished_after timings_ending unfinished_after_value timings_of_value first_out
after-zeros zero n a b = after-timings n b
after-zeros (suc z) n a b =
    let e : min (z + 1) 7 ≡ suc z = min-eq_left (omega arith) ∙ add-one z in
    rw (← e, ← add-zero n) (one_more (between z) n (omega arith) (0 ∷ 0 ∷ []) (omega arith) (omega arith) (after-zeros z n (omega arith) b))

-- and then the byte that is held
after-held : (held : Option ℕ) (z n : ℕ) → z ≤ 7 → n ≤ 65536 → LeftByCalls (record { unfinished = record { held = held; zeros = z }; timings = n })
unfolding unfinished_after timings_ending first_out
after-held None z n a b = after-zeros z n a b
after-held (Some byte) z n a b = rw (← add-zero n) (one_more (between z) n a (byte ∷ []) (omega arith) (omega arith) (after-zeros z n a b))

-- each state of which `is_left_by_calls` is true is left by calls
pub left-by-calls : (reader : RevolutionReader) → is_left_by_calls reader ≡ true → LeftByCalls reader
unfolding is_left_by_calls
left-by-calls reader = go (leb reader.unfinished.zeros 7) refl (leb reader.timings 65536) refl
  where
    go : (x : Bool) → leb reader.unfinished.zeros 7 ≡ x → (y : Bool) → leb reader.timings 65536 ≡ y → (x && y) ≡ true → LeftByCalls reader
    go true a true b e =
        after-held reader.unfinished.held reader.unfinished.zeros reader.timings (leb-true reader.unfinished.zeros 7 a) (leb-true reader.timings 65536 b)
    go true a false b e = let z : ◌≡◌ {A = ℕ} 0 1 = cc in absurd (omega arith)
    go false a y b e = let z : ◌≡◌ {A = ℕ} 0 1 = cc in absurd (omega arith)

-- the states that calls leave are exactly those of which `is_left_by_calls` is true
pub left-exactly : (reader : RevolutionReader) → (LeftByCalls reader → is_left_by_calls reader ≡ true) × (is_left_by_calls reader ≡ true → LeftByCalls reader)
left-exactly reader = ((λ l. calls-leave l.calls), left-by-calls reader)

-- a reader that calls left counts the timings that they gave
pub counted : {reader : RevolutionReader} {bytes given : List ℕ} → Calls reader bytes given → reader.timings ≡ length given
unfolding reader_left
counted none = refl
counted (more {reader} {bytes} {given} portion room count calls answer) =
    let b = behind-calls calls in
    let used = used-as-is reader b.few_zeros b.few_timings in
    let a = accepted (usable_reader reader).timings (portion_timings reader portion) room count answer in
    ap (λ (x : Answer ℕ). (reader_left x reader portion).timings) answer
    ∙ omega (arith, counted calls, ap (λ (r : RevolutionReader). r.timings) used, a.count_is, length-append given (portion_timings reader portion))

-- what calls gave is the timings of their bytes
pub given-same : {reader : RevolutionReader} {bytes given : List ℕ} → Calls reader bytes given → given ≡ timings_in bytes
given-same {bytes = bytes} calls =
    let b = behind-calls calls in
    b.given_is ∙ alike_same (from_start bytes) (subst (λ (l : List ℕ). first_out l ≡ length l) b.given_is b.all_in)
