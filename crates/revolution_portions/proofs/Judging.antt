-- The refusals of a portion and of a block, each where it holds, and the answer where none does. Assumes nothing.
use Prim.Native.Nat.{ℕ, ◌+◌, ◌≤◌, ◌<◌}
use mathlib.Core.Path.{◌≡◌, refl}
use mathlib.Core.Bool.{Bool, true, false, cond, ◌&&◌}
use mathlib.Core.List.{List}
use native.Mathlib.Omega.{arith}
use borrow.Author.Tests.{lt-ltb, le-ltb, le-leb, lt-leb, ltb-false, leb-true}
use lib.Dec.{leb, ltb}
use lib.ListN.{length}
use Rattle.basis.proofs.Bools.{and-false}
use Rattle.flux_timings.specs.Timings.{first_out}
use Rattle.flux_timings.proofs.FirstOut.{out_within}
use Rattle.refusals.specs.RefusedCalls.Answer.{gives, refused}
use Rattle.revolution_portions.specs.Portions.{fresh_reader, is_left_by_calls, usable_reader, portion_judged}
use Rattle.revolution_portions.specs.declared.RevolutionReader.{RevolutionReader}

-- which readers are used as they are
module _ (reader : RevolutionReader) where
  pub many-zeros : 7 < reader.unfinished.zeros → fresh_reader ≡ usable_reader reader
  unfolding usable_reader is_left_by_calls
  many-zeros h = rw (lt-leb reader.unfinished.zeros 7 h)

  pub many-timings : 65536 < reader.timings → fresh_reader ≡ usable_reader reader
  unfolding usable_reader is_left_by_calls
  many-timings h = rw (lt-leb reader.timings 65536 h, and-false (leb reader.unfinished.zeros 7))

  pub is-left : reader.unfinished.zeros ≤ 7 → reader.timings ≤ 65536 → is_left_by_calls reader ≡ true
  unfolding is_left_by_calls
  is-left a b = rw (le-leb reader.unfinished.zeros 7 a, le-leb reader.timings 65536 b)

  pub used-as-is : reader.unfinished.zeros ≤ 7 → reader.timings ≤ 65536 → reader ≡ usable_reader reader
  unfolding usable_reader
  used-as-is a b = rw (is-left a b)

pub usable-few : (reader : RevolutionReader) → ((usable_reader reader).unfinished.zeros ≤ 7) × ((usable_reader reader).timings ≤ 65536)
unfolding usable_reader is_left_by_calls
usable-few reader = go (leb reader.unfinished.zeros 7) refl (leb reader.timings 65536) refl
  where
    go : (x : Bool) → leb reader.unfinished.zeros 7 ≡ x → (y : Bool) → leb reader.timings 65536 ≡ y
        → ((cond (x && y) reader fresh_reader).unfinished.zeros ≤ 7) × ((cond (x && y) reader fresh_reader).timings ≤ 65536)
    go true a true b = (leb-true reader.unfinished.zeros 7 a, leb-true reader.timings 65536 b)
    go true a false b = (omega arith, omega arith)
    go false a y b = (omega arith, omega arith)

-- a portion, after `before` timings: the timings that end in it, and the room for them
module _ (before : ℕ) (ts : List ℕ) (room : ℕ) where
  pub too_many : 65536 < before + length ts → refused 7 (before + length ts) ≡ portion_judged before ts room
  unfolding portion_judged
  too_many h = rw (lt-ltb 65536 (before + length ts) h)

  module _ (few : before + length ts ≤ 65536) where
    pub one_out : first_out ts < length ts → refused 8 (before + first_out ts) ≡ portion_judged before ts room
    unfolding portion_judged
    one_out h = rw (le-ltb 65536 (before + length ts) few, lt-ltb (first_out ts) (length ts) h)

    module _ (all_in : length ts ≤ first_out ts) where
      pub no_room : room < length ts → refused 10 (length ts) ≡ portion_judged before ts room
      unfolding portion_judged
      no_room h = rw (le-ltb 65536 (before + length ts) few, le-ltb (first_out ts) (length ts) all_in, lt-ltb room (length ts) h)

      pub all-given : length ts ≤ room → gives (length ts) ≡ portion_judged before ts room
      unfolding portion_judged
      all-given h = rw (le-ltb 65536 (before + length ts) few, le-ltb (first_out ts) (length ts) all_in, le-ltb room (length ts) h)

-- what holds of a portion that is accepted
pub record Accepted (before : ℕ) (ts : List ℕ) (room count : ℕ) : Type 0 where
  pub few : before + length ts ≤ 65536
  pub all_in : first_out ts ≡ length ts
  pub enough : length ts ≤ room
  pub count_is : count ≡ length ts

pub accepted : (before : ℕ) (ts : List ℕ) (room count : ℕ) → portion_judged before ts room ≡ gives count → Accepted before ts room count
unfolding portion_judged
accepted before ts room count =
    go (ltb 65536 (before + length ts)) refl (ltb (first_out ts) (length ts)) refl (ltb room (length ts)) refl
  where
    never : {number value : ℕ} → refused number value ≡ gives count → Accepted before ts room count
    never e = let z : ◌≡◌ {A = ℕ} 0 1 = cc in absurd (omega arith)

    go : (x : Bool) → ltb 65536 (before + length ts) ≡ x → (y : Bool) → ltb (first_out ts) (length ts) ≡ y → (z : Bool) → ltb room (length ts) ≡ z
        → cond x (refused 7 (before + length ts)) (cond y (refused 8 (before + first_out ts)) (cond z (refused 10 (length ts)) (gives (length ts)))) ≡ gives count
        → Accepted before ts room count
    go true a y b z c e = never e
    go false a true b z c e = never e
    go false a false b true c e = never e
    go false a false b false c e =
        record {
          few = ltb-false 65536 (before + length ts) a;
          all_in = omega (arith, ltb-false (first_out ts) (length ts) b, out_within ts);
          enough = ltb-false room (length ts) c;
          count_is = cc;
        }
