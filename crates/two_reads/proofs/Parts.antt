-- The part that is handed back: it lies within the read that it is of, and a slice of that read is the part. Assumes nothing.
use Prim.Native.Nat.{ℕ, ◌≤◌}
use denote.Ref.{Bor}
use mathlib.Core.Path.{◌≡◌, ap}
use mathlib.Core.Bool.{Bool, true, false, cond}
use mathlib.Core.List.{List}
use native.Mathlib.Omega.{arith}
use lib.Dec.{eqb}
use Rattle.std.specs.Prelude.{Result, Ok, Err}
use lib.ListN.{length, take}
use Rattle.refusals.specs.RefusedCalls.{refused_with}
use Rattle.refusals.specs.RefusedCalls.Answer.{gives}
use Rattle.refusals.specs.declared.Refusal.{Refusal}
use Rattle.refusals.specs.declared.Refusal.TheVariants.{LengthsDiffer, NotASectorLength}
use Rattle.two_reads.specs.Comparison.{is_read_length, pair_judged}
use Rattle.two_reads.specs.GoodRead.{data_bytes, Part, empty_part, good_part_of, part_answer, good_part_answer, part_given, IsPart}
use Rattle.two_reads.specs.declared.GoodPart.{GoodPart}

-- a part of reads that lies within the one that it is of
record Within (first second : List ℕ) (part : Part) : Type 0 where
  few : part.count ≤ length (cond part.second second first)

either : (first second : List ℕ) (b : Bool) {x y : Part} → Within first second x → Within first second y → Within first second (cond b x y)
either first second true p q = p
either first second false p q = q

of-first : (first second : List ℕ) → Within first second (record { second = false; count = data_bytes first })
of-first first second = record { few = omega arith }

of-second : (first second : List ℕ) → Within first second (record { second = true; count = data_bytes second })
of-second first second = record { few = omega arith }

of_none : (first second : List ℕ) → Within first second empty_part
of_none first second = record { few = omega arith }

good-within : (first second : List ℕ) (mark : ℕ) → Within first second (good_part_of first second mark)
unfolding good_part_of
good-within first second mark = search (either, of-first, of-second, of_none)

within : (first second : List ℕ) (mark : ℕ) → Within first second (part_given (part_answer first second mark))
unfolding part_answer pair_judged
within first second mark = go (eqb (length first) (length second)) (is_read_length (length first)) (good-within first second mark)
  where
    go : (a b : Bool) {part : Part} → Within first second part
        → Within first second (part_given (cond a (cond b (gives part) (refused_with NotASectorLength)) (refused_with LengthsDiffer)))
    go false b h = of_none first second
    go true false h = of_none first second
    go true true h = h

-- what the code's answer says of the part
abbrev part_of : GoodPart → Part
part_of part = record { second = part.second; count = part.count }

module _ (first second : List ℕ) (mark : ℕ) {answer : Result GoodPart Refusal} (e : good_part_answer answer ≡ part_answer first second mark) where
  part-is : {part : GoodPart} → answer ≡ Ok part → part_of part ≡ part_given (part_answer first second mark)
  part-is p = ap part_given (rw p at e)

  none_is : {refusal : Refusal} → answer ≡ Err refusal → empty_part ≡ part_given (part_answer first second mark)
  none_is p = ap part_given (rw p at e)

  pub fits : {part : GoodPart} → answer ≡ Ok part → (side : Bool) → part.second ≡ side → part.count ≤ length (cond side second first)
  fits p side s = rw (← s) (rw (← part-is p) at (within first second mark)).few

-- a slice is the part
module _ (first second : Bor (List ℕ)) (mark : ℕ) {answer : Result GoodPart Refusal} (e : good_part_answer answer ≡ part_answer first.now second.now mark) where
  pub is-part : {part : GoodPart} → answer ≡ Ok part → (side : Bool) → part.second ≡ side → (slice : Bor (List ℕ)) → slice.ref_ptr ≡ (cond side second first).ref_ptr
      → slice.now ≡ take part.count (cond side second first).now → IsPart slice first second (part_given (part_answer first.now second.now mark))
  is-part p side s slice begins bytes =
      rw (← part-is first.now second.now mark e p) (record { begins = rw s begins; bytes = rw s bytes })

  pub is_none : {refusal : Refusal} → answer ≡ Err refusal → (slice : Bor (List ℕ)) → slice.ref_ptr ≡ first.ref_ptr → slice.now ≡ take 0 first.now
      → IsPart slice first second (part_given (part_answer first.now second.now mark))
  is_none p slice begins bytes = rw (← none_is first.now second.now mark e p) (record { begins = begins; bytes = bytes })
