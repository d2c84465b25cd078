-- What calls on portions have given so far, and so what one call more promises: however the bytes are cut, all timings are theirs.
-- Assumes nothing.
use Prim.Native.Nat.{ℕ, ◌+◌, ◌≤◌}
use mathlib.Core.Path.{◌≡◌, refl, sym, ◌∙◌, ap, subst}
use mathlib.Core.Bool.{true}
use mathlib.Core.List.{List, ◌++◌}
use native.Mathlib.Omega.{arith}
use lib.ListN.{length, take, drop, length-append}
use lib.Seq.{take_at}
use Rattle.basis.specs.Lists.{written_over}
use Rattle.flux_timings.specs.Timings.{first_out}
use Rattle.refusals.specs.RefusedCalls.{Answer, buffer_after}
use Rattle.refusals.specs.RefusedCalls.Answer.{gives, refused}
use Rattle.revolution_values.specs.Values.{unfinished_after, timings_ending, between}
use Rattle.revolution_portions.specs.Timings.{timings_in}
use Rattle.revolution_portions.specs.Portions.{is_left_by_calls, usable_reader, portion_timings, portion_answer, reader_left, portion_reader, portion_list, Calls, AllTimings}
use Rattle.revolution_portions.specs.Portions.Calls.{none, more}
use Rattle.revolution_portions.specs.declared.RevolutionReader.{RevolutionReader}
use Rattle.revolution_values.specs.declared.Unfinished.{Unfinished}
use Rattle.revolution_values.proofs.Passing.{out-all}
use Rattle.revolution_portions.proofs.Timings.{after-append, ending-append, alike_same, from_start, zeros-stay-few}
use Rattle.revolution_portions.proofs.Judging.{is-left, Accepted, accepted}

-- the reader that calls left, and what they gave
pub record Behind (reader : RevolutionReader) (bytes given : List ℕ) : Type 0 where
  pub few_zeros : reader.unfinished.zeros ≤ 7
  pub few_timings : reader.timings ≤ 65536
  pub unfinished_is : reader.unfinished ≡ unfinished_after (between 0) bytes
  pub given_is : given ≡ timings_ending (between 0) bytes
  pub all_in : first_out given ≡ length given

pub as-it-is : (reader : RevolutionReader) → is_left_by_calls reader ≡ true → usable_reader reader ≡ reader
unfolding usable_reader
as-it-is reader e = rw e

-- one call more
module _ {reader : RevolutionReader} {bytes given : List ℕ} (behind : Behind reader bytes given) (portion : List ℕ) (room count : ℕ)
    (answer : portion_answer reader portion room ≡ gives count) where
  as-left : usable_reader reader ≡ reader
  as-left = as-it-is reader (is-left reader behind.few_zeros behind.few_timings)

  ts-are : portion_timings reader portion ≡ timings_ending (unfinished_after (between 0) bytes) portion
  ts-are = ap (λ (r : RevolutionReader). timings_ending r.unfinished portion) as-left ∙ ap (λ (u : Unfinished). timings_ending u portion) behind.unfinished_is

  taken : Accepted (usable_reader reader).timings (portion_timings reader portion) room count
  taken = accepted (usable_reader reader).timings (portion_timings reader portion) room count answer

  pub all_are : given ++ portion_timings reader portion ≡ timings_ending (between 0) (bytes ++ portion)
  all_are = rw (behind.given_is, ts-are) (sym (ending-append (between 0) bytes portion))

  pub all-within : first_out (given ++ portion_timings reader portion) ≡ length (given ++ portion_timings reader portion)
  all-within =
      out-all given (portion_timings reader portion) behind.all_in
      ∙ omega (arith, taken.all_in, length-append given (portion_timings reader portion))

  pub whole-bytes : given ++ portion_timings reader portion ≡ timings_in (bytes ++ portion)
  whole-bytes =
      let e = all_are in
      e ∙ alike_same (from_start (bytes ++ portion)) (subst (λ (ts : List ℕ). first_out ts ≡ length ts) e all-within)

  next-behind : Behind (reader_left (gives count) reader portion) (bytes ++ portion) (given ++ portion_timings reader portion)
  unfolding reader_left
  next-behind =
      let u = usable_reader reader in
      record {
        few_zeros = rw as-left (zeros-stay-few reader.unfinished portion behind.few_zeros);
        few_timings = omega (arith, taken.few, taken.count_is);
        unfinished_is = rw (as-left, behind.unfinished_is) (sym (after-append (between 0) bytes portion));
        given_is = all_are;
        all_in = all-within;
      }

  pub then-behind : Behind (portion_reader reader portion room) (bytes ++ portion) (given ++ portion_timings reader portion)
  then-behind =
      subst (λ (a : Answer ℕ). Behind (reader_left a reader portion) (bytes ++ portion) (given ++ portion_timings reader portion)) (sym answer) next-behind

pub behind-calls : {reader : RevolutionReader} {bytes given : List ℕ} → Calls reader bytes given → Behind reader bytes given
unfolding unfinished_after timings_ending first_out
behind-calls none = record { few_zeros = omega arith; few_timings = omega arith; unfinished_is = refl; given_is = refl; all_in = refl }
behind-calls (more portion room count calls answer) = then-behind (behind-calls calls) portion room count answer

-- all that a call promises, from what it gave and what it left
abbrev pub Promised : (reader : RevolutionReader) (portion before : List ℕ) → Answer ℕ → RevolutionReader → List ℕ → Type 0
Promised reader portion before gave next after =
    record {
      answer : gave ≡ portion_answer reader portion (length before);
      state : next ≡ portion_reader reader portion (length before);
      list : after ≡ portion_list reader portion before;
      all : AllTimings reader portion gave after;
    }

module _ (reader : RevolutionReader) (portion list : List ℕ) {answer : Answer ℕ} (is : answer ≡ portion_answer reader portion (length list)) {next : RevolutionReader} {after : List ℕ}
    (left : next ≡ reader_left answer reader portion) (kept : after ≡ buffer_after answer (portion_timings reader portion) list) where
  all : AllTimings reader portion answer after
  unfolding buffer_after
  all =
      record {
        same = λ bytes given calls count e.
            let a = accepted (usable_reader reader).timings (portion_timings reader portion) (length list) count (sym is ∙ e) in
            let k : after ≡ written_over (portion_timings reader portion) list = kept ∙ ap (λ (x : Answer ℕ). buffer_after x (portion_timings reader portion) list) e in
            let t : take count after ≡ portion_timings reader portion
            = ap (take count) k ∙ take_at (portion_timings reader portion) (drop (length (portion_timings reader portion)) list) count (sym a.count_is) in
            ap (λ (l : List ℕ). given ++ l) t ∙ whole-bytes (behind-calls calls) portion (length list) count (sym is ∙ e);
      }

  pub promised : Promised reader portion list answer next after
  promised =
      record {
        answer = is;
        state = left ∙ ap (λ (a : Answer ℕ). reader_left a reader portion) is;
        list = kept ∙ ap (λ (a : Answer ℕ). buffer_after a (portion_timings reader portion) list) is;
        all = all;
      }

-- a refused call, and an accepted one
pub promised-refused : (reader : RevolutionReader) (portion list : List ℕ) {number value : ℕ} → refused number value ≡ portion_answer reader portion (length list)
    → Promised reader portion list (refused number value) reader list
unfolding reader_left buffer_after
promised-refused reader portion list e = promised reader portion list e refl refl

pub promised-given : (reader : RevolutionReader) (portion list : List ℕ) {count : ℕ} → gives count ≡ portion_answer reader portion (length list)
    → {unfinished : Unfinished} → unfinished ≡ unfinished_after (usable_reader reader).unfinished portion → {timings : ℕ} → timings ≡ (usable_reader reader).timings + count
    → {after : List ℕ} → after ≡ written_over (portion_timings reader portion) list
    → Promised reader portion list (gives count) (record { unfinished = unfinished; timings = timings }) after
unfolding reader_left buffer_after
promised-given reader portion list e u t w = promised reader portion list e (rw (u, t)) w
