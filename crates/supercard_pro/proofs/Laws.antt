-- The whole call on a block, beside calls on portions of a revolution's bytes.
--
--   as-whole-call    portions of which none is refused give together what the whole call gives, on a list with room for it (rule 12.22)
--   whole-in-one     where the whole call is accepted, so is one portion with all bytes, with the same answer and the same list
--   in-any-portions  where the whole call is accepted, so is each portion of any cut, given room for its own timings
--   all-portions     so the portions of any cut are accepted one after another, and give the timings that the whole call gives
--
-- Assumes nothing.
use Prim.Native.Nat.{ℕ, ◌+◌, ◌≤◌, ◌<◌}
use mathlib.Core.Path.{◌≡◌, refl, sym, ◌∙◌, ap}
use mathlib.Core.Bool.{Bool, true, false, cond}
use mathlib.Core.List.{List, [], ◌∷◌, ◌++◌, append_assoc, append-nil}
use native.Mathlib.Decide.{dec_le}
use native.Mathlib.Nat.{lt_of_not-le}
use native.Mathlib.Omega.{arith}
use borrow.Author.Tests.{lt-ltb, le-ltb}
use lib.Dec.{ltb}
use lib.ListN.{length, length-append}
use Rattle.basis.specs.Lists.{written_over}
use Rattle.flux_timings.specs.Timings.{first_out}
use Rattle.flux_timings.proofs.Judging.{no_timings, timings-accepted}
use Rattle.refusals.specs.RefusedCalls.{Answer, buffer_after}
use Rattle.refusals.specs.RefusedCalls.Answer.{gives, refused}
use Rattle.supercard_pro.specs.TrackBlock.{value_bytes, revolution_timings, not_a_track_block, block_judged, block_answer, block_timings}
use Rattle.revolution_values.specs.Values.{unfinished_after, timings_ending, between}
use Rattle.revolution_portions.specs.Timings.{timings_in}
use Rattle.revolution_portions.specs.Portions.{room_judged, fresh_reader, is_left_by_calls, usable_reader, portion_judged, portion_timings, portion_answer, portion_reader, portion_list, Calls}
use Rattle.revolution_portions.specs.Portions.Calls.{none, more}
use Rattle.revolution_portions.specs.declared.RevolutionReader.{RevolutionReader}
use Rattle.revolution_values.specs.declared.Unfinished.{Unfinished}
use Rattle.supercard_pro.proofs.Block.{whole-answer, whole-list}
use Rattle.revolution_portions.proofs.History.{behind-calls}
use Rattle.revolution_values.proofs.Passing.{out-all, out_some}
use Rattle.revolution_portions.proofs.Judging.{used-as-is, all-given, accepted}
use Rattle.revolution_portions.proofs.Timings.{ending-append}
use Rattle.revolution_portions.proofs.Laws.{counted, given-same}

-- the whole call, beside calls on portions that gave these timings. Where there are none the whole call is refused with 6, and no portion is
pub record AsWholeCall (block : List ℕ) (revolutions k : ℕ) (given : List ℕ) : Type 0 where
  pub same : given ≡ revolution_timings block k
  pub answer : (length given ≡ 0 → ⊥) → (list : List ℕ) → length given ≤ length list → block_answer block revolutions k (length list) ≡ gives (length given)
  pub written : (length given ≡ 0 → ⊥) → (list : List ℕ) → length given ≤ length list → block_timings block revolutions k list ≡ written_over given list

-- one portion with all bytes from a fresh reader on, beside the whole call on the same list
pub record InOne (block : List ℕ) (revolutions k : ℕ) (list : List ℕ) (count : ℕ) : Type 0 where
  pub answer : portion_answer fresh_reader (value_bytes block k) (length list) ≡ gives count
  pub written : portion_list fresh_reader (value_bytes block k) list ≡ block_timings block revolutions k list

-- the bytes of portions, one after another
abbrev pub all_bytes : List (List ℕ) → List ℕ
all_bytes [] = []
all_bytes (portion ∷ portions) = portion ++ all_bytes portions

-- each of some portions in turn is accepted, with room for just its timings; and all timings that they give
abbrev pub EachTaken : RevolutionReader → List (List ℕ) → Type 0
EachTaken reader [] = Unit
EachTaken reader (portion ∷ portions) =
    (portion_answer reader portion (length (portion_timings reader portion)) ≡ gives (length (portion_timings reader portion)))
    × EachTaken (portion_reader reader portion (length (portion_timings reader portion))) portions

abbrev pub timings_through : RevolutionReader → List (List ℕ) → List ℕ
timings_through reader [] = []
timings_through reader (portion ∷ portions) =
    portion_timings reader portion ++ timings_through (portion_reader reader portion (length (portion_timings reader portion))) portions

module _ (block : List ℕ) (revolutions k : ℕ) where
  -- a revolution that the block has, whose timings are these
  module _ (block-is : not_a_track_block block revolutions ≡ false) (has : k < revolutions) {ts : List ℕ} (is : ts ≡ revolution_timings block k) where
    given-whole : (length ts ≡ 0 → ⊥) → length ts ≤ 65536 → first_out ts ≡ length ts → (room : ℕ) → length ts ≤ room
        → block_answer block revolutions k room ≡ gives (length ts)
    unfolding block_judged
    given-whole some few all_in room h =
        rw (block-is, lt-ltb k revolutions has, ← is)
        (sym (timings-accepted ts (room_judged (length ts) room) some few all_in) ∙ rw (le-ltb room (length ts) h))

  pub as-whole-call : not_a_track_block block revolutions ≡ false → k < revolutions → {reader : RevolutionReader} {given : List ℕ}
      → Calls reader (value_bytes block k) given → AsWholeCall block revolutions k given
  unfolding buffer_after
  as-whole-call block-is has {reader} {given} calls =
      let b = behind-calls calls in
      let same : given ≡ revolution_timings block k = given-same calls in
      let few : length given ≤ 65536 = omega (arith, b.few_timings, counted calls) in
      record {
        same = same;
        answer = λ some list room. given-whole block-is has same some few b.all_in (length list) room;
        written = λ some list room.
            ap (λ (a : Answer ℕ). buffer_after a (revolution_timings block k) list) (given-whole block-is has same some few b.all_in (length list) room)
            ∙ ap (λ (l : List ℕ). written_over l list) (sym same);
      }

  -- an accepted call is refused with neither 16 nor 17
  judged-on : {next : Answer ℕ} {count : ℕ} → block_judged block revolutions k next ≡ gives count → next ≡ gives count
  unfolding block_judged
  judged-on {next} {count} = go (not_a_track_block block revolutions) (ltb k revolutions)
    where
      go : (bad has : Bool) → cond bad (refused 16 0) (cond has next (refused 17 0)) ≡ gives count → next ≡ gives count
      go true has e = cc
      go false true e = e
      go false false e = cc

  -- one portion from a fresh reader on is judged by the timings that end in it alone
  one-portion : (bytes : List ℕ) (room : ℕ) → portion_answer fresh_reader bytes room ≡ portion_judged 0 (timings_ending (between 0) bytes) room
  unfolding usable_reader is_left_by_calls
  one-portion bytes room = refl

  pub whole-in-one : (list : List ℕ) (count : ℕ) → block_answer block revolutions k (length list) ≡ gives count → InOne block revolutions k list count
  whole-in-one list count e =
      let ts = revolution_timings block k in
      let accepts = judged-on e in
      let some : length ts ≡ 0 → ⊥
      = λ none. let r = no_timings ts (room_judged (length ts) (length list)) none in let z : ◌≡◌ {A = ℕ} 0 1 = cc in omega arith in
      let same : portion_answer fresh_reader (value_bytes block k) (length list) ≡ gives count = whole-answer (value_bytes block k) (length list) some ∙ accepts in
      record {
        answer = same;
        written = whole-list (value_bytes block k) list ∙ ap (λ (a : Answer ℕ). buffer_after a ts list) (same ∙ sym e);
      }

  pub in-any-portions : (list : List ℕ) (count : ℕ) → block_answer block revolutions k (length list) ≡ gives count
      → {reader : RevolutionReader} {bytes given : List ℕ} → Calls reader bytes given → (portion rest : List ℕ) → bytes ++ (portion ++ rest) ≡ value_bytes block k
      → (room : ℕ) → length (portion_timings reader portion) ≤ room → portion_answer reader portion room ≡ gives (length (portion_timings reader portion))
  in-any-portions list count e {reader} {bytes} {given} calls portion rest cut room enough =
      let b = behind-calls calls in
      let ts = portion_timings reader portion in
      let us = timings_ending (unfinished_after (unfinished_after (between 0) bytes) portion) rest in
      let used = used-as-is reader b.few_zeros b.few_timings in
      let whole = accepted 0 (timings_ending (between 0) (value_bytes block k)) (length list) count (sym (one-portion (value_bytes block k) (length list)) ∙ (whole-in-one list count e).answer) in
      let here : timings_ending (unfinished_after (between 0) bytes) portion ≡ ts
      = ap (λ (u : Unfinished). timings_ending u portion) (sym b.unfinished_is) ∙ ap (λ (r : RevolutionReader). timings_ending r.unfinished portion) used in
      let all : timings_ending (between 0) (value_bytes block k) ≡ given ++ (ts ++ us)
      = ap (timings_ending (between 0)) (sym cut) ∙ ending-append (between 0) bytes (portion ++ rest)
      ∙ rw (← b.given_is, ending-append (unfinished_after (between 0) bytes) portion rest, here) in
      let long : length (timings_ending (between 0) (value_bytes block k)) ≡ length given + (length ts + length us)
      = ap length all ∙ length-append given (ts ++ us) ∙ ap (λ (n : ℕ). length given + n) (length-append ts us) in
      let out : first_out (timings_ending (between 0) (value_bytes block k)) ≡ length given + first_out (ts ++ us) = ap first_out all ∙ out-all given (ts ++ us) b.all_in in
      let all_in : length ts ≤ first_out ts = go ts us (omega (arith, whole.all_in, long, out)) (dec_le (length ts) (first_out ts)) in
      let before : (usable_reader reader).timings ≡ length given = ap (λ (r : RevolutionReader). r.timings) (sym used) ∙ counted calls in
      sym (all-given (usable_reader reader).timings ts room (omega (arith, before, whole.few, long)) all_in enough)
    where
      go : (xs ys : List ℕ) → first_out (xs ++ ys) ≡ length xs + length ys → Dec (length xs ≤ first_out xs) → length xs ≤ first_out xs
      go xs ys o (yes h) = h
      go xs ys o (no h) = absurd (omega (arith, o, lt_of_not-le h, out_some xs ys (lt_of_not-le h)))

  -- the portions in `cut` are still to come
  onward : (list : List ℕ) (count : ℕ) → block_answer block revolutions k (length list) ≡ gives count → {reader : RevolutionReader} {bytes given : List ℕ}
      → Calls reader bytes given → (cut : List (List ℕ)) → bytes ++ all_bytes cut ≡ value_bytes block k
      → EachTaken reader cut × (given ++ timings_through reader cut ≡ revolution_timings block k)
  onward list count e {reader} {bytes} {given} calls [] whole =
      (tt, append-nil given ∙ given-same calls ∙ ap timings_in (sym (append-nil bytes) ∙ whole))
  onward list count e {reader} {bytes} {given} calls (portion ∷ cut) whole =
      let ts = portion_timings reader portion in
      let answer = in-any-portions list count e calls portion (all_bytes cut) whole (length ts) (omega arith) in
      let next = onward list count e {reader = portion_reader reader portion (length ts)} (more portion (length ts) (length ts) calls answer) cut (append_assoc bytes portion (all_bytes cut) ∙ whole) in
      ((answer, next.0), sym (append_assoc given ts (timings_through (portion_reader reader portion (length ts)) cut)) ∙ next.1)

  pub all-portions : (list : List ℕ) (count : ℕ) → block_answer block revolutions k (length list) ≡ gives count → (cut : List (List ℕ)) → all_bytes cut ≡ value_bytes block k
      → EachTaken fresh_reader cut × (timings_through fresh_reader cut ≡ revolution_timings block k)
  all-portions list count e cut whole = onward list count e none cut whole
