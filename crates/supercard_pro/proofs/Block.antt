-- The whole call on a block: what its branches answer, and that a portion with all bytes of a revolution is the whole call. Assumes nothing.
use Prim.Native.Nat.{ℕ, ◌+◌, ◌-◌, ◌*◌, ◌≤◌, ◌<◌}
use mathlib.Core.Path.{◌≡◌, refl, sym, ◌∙◌, ap}
use mathlib.Core.Bool.{Bool, true, false, cond, ◌||◌}
use mathlib.Core.List.{List, [], ◌∷◌}
use native.Mathlib.Omega.{arith}
use native.Mathlib.Nat.{zero-add}
use borrow.Author.Tests.{lt-ltb, ltb-false, ne_eqb}
use lib.Dec.{eqb, ltb}
use lib.ListN.{length, take, drop, length-drop}
use lib.Seq.{length-take-le}
use Rattle.basis.specs.Search.{least}
use Rattle.basis.proofs.Bools.{or_left, or_right}
use Rattle.basis.proofs.Search.{least-before}
use Rattle.flux_timings.specs.Timings.{first_out, timings_judged}
use Rattle.flux_timings.proofs.Judging.{no_timings}
use Rattle.refusals.specs.RefusedCalls.{Answer, buffer_after}
use Rattle.refusals.specs.RefusedCalls.Answer.{gives, refused}
use Rattle.supercard_pro.specs.TrackBlock.{value_count, value_offset, table_end, value_bytes, revolution_timings, ends_in_zero, other_letters, table_short, bad_revolution, some_bad, not_a_track_block, block_judged, block_answer, block_timings}
use Rattle.revolution_portions.specs.Timings.{values_of, timings_from, timings_in}
use Rattle.revolution_portions.specs.Portions.{room_judged, fresh_reader, is_left_by_calls, usable_reader, portion_judged, portion_timings, portion_answer, portion_list}
use Rattle.revolution_portions.specs.declared.RevolutionReader.{RevolutionReader}
use Rattle.revolution_portions.proofs.Judging.{accepted}
use Rattle.revolution_portions.proofs.Timings.{Alike, alike-length, alike-out, alike_same, from_start}

-- what holds of each revolution of a block that is not refused with 16
pub record Sound (block : List ℕ) (revolutions k : ℕ) : Type 0 where
  pub entry : 16 + 12 * k ≤ length block
  pub starts : table_end revolutions ≤ value_offset block k
  pub ends : value_offset block k + 2 * value_count block k ≤ length block
  pub last : ends_in_zero (values_of (value_bytes block k)) ≡ false

pub sound : (block : List ℕ) (revolutions k : ℕ) → not_a_track_block block revolutions ≡ false → k < revolutions → Sound block revolutions k
unfolding not_a_track_block bad_revolution
sound block revolutions k e h =
    let a = or_right (other_letters block) (table_short block revolutions || some_bad block revolutions) e in
    let table = ltb-false (length block) (table_end revolutions) (or_left (table_short block revolutions) (some_bad block revolutions) a) in
    let none = ltb-false (least (bad_revolution block revolutions) revolutions 0) revolutions (or_right (table_short block revolutions) (some_bad block revolutions) a) in
    let good : bad_revolution block revolutions k ≡ false = least-before (bad_revolution block revolutions) revolutions 0 k (omega arith) (omega arith) in
    let x = ltb (value_offset block k) (table_end revolutions) in
    let y = ltb (length block) (value_offset block k + 2 * value_count block k) in
    let z = ends_in_zero (values_of (value_bytes block k)) in
    let b = or_right x (y || z) good in
    record {
      entry = omega (arith, table, h);
      starts = ltb-false (value_offset block k) (table_end revolutions) (or_left x (y || z) good);
      ends = ltb-false (length block) (value_offset block k + 2 * value_count block k) (or_left y z b);
      last = or_right y z b;
    }

-- values of which the last is no 0 have a timing
some-timing : (units : ℕ) (values : List ℕ) → (length values ≡ 0 → ⊥) → ends_in_zero values ≡ false → length (timings_from units values) ≡ 0 → ⊥
unfolding ends_in_zero timings_from
some-timing units [] some e none = some refl
some-timing units (v ∷ []) some e none = let n : length (cond (eqb v 0) (timings_from (units + 65536) []) (25 * (units + v) ∷ timings_from 0 [])) ≡ 1 = rw e in omega arith
some-timing units (v ∷ w ∷ vs) some e none = go (eqb v 0) none (some-timing (units + 65536) (w ∷ vs) (λ z. omega (arith, z)) e)
  where
    go : (x : Bool) → length (cond x (timings_from (units + 65536) (w ∷ vs)) (25 * (units + v) ∷ timings_from 0 (w ∷ vs))) ≡ 0
        → (length (timings_from (units + 65536) (w ∷ vs)) ≡ 0 → ⊥) → ⊥
    go true n more = more n
    go false n more = omega (arith, n)

some-values : (bytes : List ℕ) → 2 ≤ length bytes → length (values_of bytes) ≡ 0 → ⊥
unfolding values_of
some-values [] h e = omega arith
some-values (high ∷ []) h e = omega arith
some-values (high ∷ low ∷ bytes) h e = omega arith

-- a portion with all bytes, from a fresh reader on
fresh-used : usable_reader fresh_reader ≡ fresh_reader
unfolding usable_reader is_left_by_calls
fresh-used = refl

module _ (bytes : List ℕ) (room : ℕ) where
  abbrev ts : List ℕ
  ts = timings_in bytes

  alike : Alike (portion_timings fresh_reader bytes) (timings_in bytes)
  alike = rw fresh-used (from_start bytes)

  judged : (n : ℕ) (out : ℕ) → (length ts ≡ 0 → ⊥) → n ≡ length ts → out ≡ first_out ts
      → cond (ltb 65536 (0 + n)) (refused 7 (0 + n)) (cond (ltb out n) (refused 8 (0 + out)) (room_judged n room)) ≡ timings_judged ts (room_judged (length ts) room)
  unfolding timings_judged
  judged n out some a b = rw (zero-add n, zero-add out, a, b, ne_eqb (length ts) 0 some)

  pub whole-answer : (length ts ≡ 0 → ⊥) → portion_answer fresh_reader bytes room ≡ timings_judged ts (room_judged (length ts) room)
  unfolding portion_judged
  whole-answer some =
      ap (λ (r : RevolutionReader). portion_judged r.timings (portion_timings fresh_reader bytes) room) fresh-used
      ∙ judged (length (portion_timings fresh_reader bytes)) (first_out (portion_timings fresh_reader bytes)) some (alike-length alike) (alike-out alike)

-- and what it leaves in the list
pub whole-list : (bytes list : List ℕ) → portion_list fresh_reader bytes list ≡ buffer_after (portion_answer fresh_reader bytes (length list)) (timings_in bytes) list
unfolding buffer_after
whole-list bytes list = go (portion_answer fresh_reader bytes (length list)) refl
  where
    go : (answer : Answer ℕ) → portion_answer fresh_reader bytes (length list) ≡ answer
        → buffer_after answer (portion_timings fresh_reader bytes) list ≡ buffer_after answer (timings_in bytes) list
    go (gives count) e =
        let a = accepted (usable_reader fresh_reader).timings (portion_timings fresh_reader bytes) (length list) count e in
        ap (λ (l : List ℕ). buffer_after (gives count) l list) (alike_same (alike bytes (length list)) a.all_in)
    go (refused number value) e = refl

-- all that the call promises
abbrev pub BlockPromised : (block : List ℕ) (revolutions k : ℕ) (before : List ℕ) → Answer ℕ → List ℕ → Type 0
BlockPromised block revolutions k before gave after =
    record { answer : gave ≡ block_answer block revolutions k (length before); list : after ≡ block_timings block revolutions k before }

-- what the judgement of a block says that gives something of it
module _ (block : List ℕ) (revolutions : ℕ) {A : Type 0} {x : A} (y : A) where
  judged-gives : gives x ≡ cond (not_a_track_block block revolutions) (refused 16 0) (gives y) → (not_a_track_block block revolutions ≡ false) × (x ≡ y)
  judged-gives e = go (not_a_track_block block revolutions) e
    where
      go : (b : Bool) → gives x ≡ cond b (refused 16 0) (gives y) → (b ≡ false) × (x ≡ y)
      go true e = absurd cc
      go false e = (refl, cc)

  pub judged-block : gives x ≡ cond (not_a_track_block block revolutions) (refused 16 0) (gives y) → not_a_track_block block revolutions ≡ false
  judged-block e = (judged-gives e).0

  pub judged-table : gives x ≡ cond (not_a_track_block block revolutions) (refused 16 0) (gives y) → x ≡ y
  judged-table e = (judged-gives e).1

module _ (block : List ℕ) (revolutions k : ℕ) (list : List ℕ) where
  block-promised : {answer : Answer ℕ} {after : List ℕ} → answer ≡ block_answer block revolutions k (length list) → after ≡ buffer_after answer (revolution_timings block k) list
      → BlockPromised block revolutions k list answer after
  block-promised e f = record { answer = e; list = f ∙ ap (λ (a : Answer ℕ). buffer_after a (revolution_timings block k) list) e }

  module _ (block-is : not_a_track_block block revolutions ≡ false) where
    module _ (has : k < revolutions) where
      judged-on : {next : Answer ℕ} → next ≡ block_judged block revolutions k next
      unfolding block_judged
      judged-on = rw (block-is, lt-ltb k revolutions has)

      pub no-values-no-timings : {count : ℕ} → count ≡ value_count block k → count ≡ 0 → BlockPromised block revolutions k list (refused 6 0) list
      unfolding buffer_after values_of timings_from
      no-values-no-timings c z =
          let e : length (revolution_timings block k) ≡ 0 = rw (← c, z) in
          block-promised (no_timings (revolution_timings block k) _ e ∙ judged-on) refl

      part-is : (from count : ℕ) → from ≡ value_offset block k → count ≡ value_count block k → take (from + 2 * count - from) (drop from block) ≡ value_bytes block k
      part-is from count o c =
          let e : from + 2 * count - from ≡ 2 * count = omega arith in
          rw (e, o, c)

      -- `from` and `count` are where the values start and how many there are; `reader` is a fresh one
      pub as-portion : {from count : ℕ} → from ≡ value_offset block k → count ≡ value_count block k → (count ≡ 0 → ⊥) → {reader : RevolutionReader} → reader ≡ fresh_reader
          → {answer : Answer ℕ} {after : List ℕ} → answer ≡ portion_answer reader (take (from + 2 * count - from) (drop from block)) (length list)
          → after ≡ portion_list reader (take (from + 2 * count - from) (drop from block)) list → BlockPromised block revolutions k list answer after
      as-portion {from} {count} o c some {reader} r {answer} {after} e f =
          let part : take (from + 2 * count - from) (drop from block) ≡ value_bytes block k = part-is from count o c in
          let s = sound block revolutions k block-is has in
          let n = length-take-le (2 * value_count block k) (drop (value_offset block k) block) (omega (arith, s.ends, length-drop (value_offset block k) block)) in
          let has_value : 2 ≤ length (value_bytes block k) = omega (arith, n, c, some) in
          let has-timing = some-timing 0 (values_of (value_bytes block k)) (some-values (value_bytes block k) has_value) s.last in
          let answer_is : answer ≡ portion_answer fresh_reader (value_bytes block k) (length list) = e ∙ rw (r, part) in
          block-promised (answer_is ∙ whole-answer (value_bytes block k) (length list) has-timing ∙ judged-on)
          (f ∙ rw (r, part) (whole-list (value_bytes block k) list
          ∙ ap (λ (a : Answer ℕ). buffer_after a (revolution_timings block k) list) (sym answer_is)))
