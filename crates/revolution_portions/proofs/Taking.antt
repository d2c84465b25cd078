-- Each branch of the code that takes a portion. Assumes nothing.
use Prim.Native.Nat.{ℕ, ◌+◌, ◌≤◌, ◌<◌}
use mathlib.Core.Path.{◌≡◌, sym, ◌∙◌, ap, subst}
use mathlib.Core.List.{List, ◌++◌}
use native.Mathlib.Omega.{arith}
use lib.ListN.{length, drop}
use lib.Seq.{sets, sets-eq}
use Rattle.basis.specs.Lists.{written_over}
use Rattle.refusals.specs.RefusedCalls.Answer.{gives, refused}
use Rattle.std.specs.Prelude.{Option, Some, None}
use Rattle.flux_timings.specs.Timings.{first_out}
use Rattle.revolution_values.specs.Values.{unfinished_after, timings_ending, out_among, capped}
use Rattle.revolution_portions.specs.Portions.{usable_reader, portion_timings, portion_answer}
use Rattle.revolution_portions.specs.declared.RevolutionReader.{RevolutionReader}
use Rattle.revolution_values.specs.declared.Unfinished.{Unfinished}
use Rattle.revolution_values.proofs.Passing.{few-as-they-are, out-some-is, out-none-is}
use Rattle.revolution_portions.proofs.Judging.{usable-few, too_many, one_out, no_room, all-given}
use Rattle.revolution_portions.proofs.History.{Promised, promised-refused, promised-given}

-- timings stored from the front of a list on that has room for them
stored : (list ts : List ℕ) → length ts ≤ length list → sets list 0 ts ≡ written_over ts list
stored list ts h = sets-eq ts list 0 (omega arith) ∙ ap (λ (n : ℕ). ts ++ drop n list) (zero-plus (length ts))
  where
    zero-plus : (n : ℕ) → 0 + n ≡ n
    zero-plus n = omega arith

-- what is used has few zeros and few timings
pub used-few : (reader : RevolutionReader) {used : RevolutionReader} → used ≡ usable_reader reader → (used.unfinished.zeros ≤ 7) × (used.timings ≤ 65536)
used-few reader is = subst (λ (r : RevolutionReader). (r.unfinished.zeros ≤ 7) × (r.timings ≤ 65536)) (sym is) (usable-few reader)

-- `used` is the reader as it is used, `count` the timings that end in the portion, `out` the first of them out of range
module _ (reader : RevolutionReader) (portion list : List ℕ) {used : RevolutionReader} (used-is : used ≡ usable_reader reader) {unfinished : Unfinished} {count : ℕ} {out : Option ℕ}
    (left : unfinished ≡ unfinished_after (capped used.unfinished) portion) (counted : count ≡ length (timings_ending (capped used.unfinished) portion))
    (found : out ≡ out_among (timings_ending (capped used.unfinished) portion)) where
  capped-is : capped used.unfinished ≡ (usable_reader reader).unfinished
  capped-is = few-as-they-are used.unfinished (used-few reader used-is).0 ∙ ap (λ (r : RevolutionReader). r.unfinished) used-is

  same : timings_ending (capped used.unfinished) portion ≡ portion_timings reader portion
  same = ap (λ (u : Unfinished). timings_ending u portion) capped-is

  before-is : used.timings ≡ (usable_reader reader).timings
  before-is = ap (λ (r : RevolutionReader). r.timings) used-is

  count_is : count ≡ length (portion_timings reader portion)
  count_is = counted ∙ ap length same

  out_is : out ≡ out_among (portion_timings reader portion)
  out_is = found ∙ ap out_among same

  pub take-too-many : 65536 < used.timings + count → Promised reader portion list (refused 7 (used.timings + count)) reader list
  take-too-many h =
      rw (before-is, count_is)
      (promised-refused reader portion list (too_many (usable_reader reader).timings (portion_timings reader portion) (length list) (omega (arith, before-is, count_is))))

  module _ (few : used.timings + count ≤ 65536) where
    few-are : (usable_reader reader).timings + length (portion_timings reader portion) ≤ 65536
    few-are = omega (arith, before-is, count_is)

    pub take-one-out : {first : ℕ} → out ≡ Some first → Promised reader portion list (refused 8 (used.timings + first)) reader list
    take-one-out e =
        let o = out-some-is (portion_timings reader portion) out_is e in
        rw (before-is, o.1)
        (promised-refused reader portion list (one_out (usable_reader reader).timings (portion_timings reader portion) (length list) few-are o.0))

    module _ (all_in : out ≡ None) where
      all-are-in : length (portion_timings reader portion) ≤ first_out (portion_timings reader portion)
      all-are-in = out-none-is (portion_timings reader portion) out_is all_in

      pub take-no-room : length list < count → Promised reader portion list (refused 10 count) reader list
      take-no-room h =
          rw count_is
          (promised-refused reader portion list
          (no_room (usable_reader reader).timings (portion_timings reader portion) (length list) few-are all-are-in (omega (arith, count_is))))

      pub take-given : count ≤ length list → {after : List ℕ} → after ≡ sets list 0 (timings_ending (capped used.unfinished) portion)
          → Promised reader portion list (gives count) (record { unfinished = unfinished; timings = used.timings + count }) after
      take-given h w =
          let e : gives count ≡ portion_answer reader portion (length list)
          = ap gives count_is ∙ all-given (usable_reader reader).timings (portion_timings reader portion) (length list) few-are all-are-in (omega (arith, count_is)) in
          promised-given reader portion list e (left ∙ ap (λ (u : Unfinished). unfinished_after u portion) capped-is) (ap (λ (n : ℕ). n + count) before-is)
          (w ∙ ap (λ (l : List ℕ). sets list 0 l) same ∙ stored list (portion_timings reader portion) (omega (arith, count_is)))
