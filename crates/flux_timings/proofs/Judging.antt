-- What the judgement of timings by 6 to 8 tells of a call that judges them first. Assumes nothing.
use Prim.Native.Nat.{ℕ, ◌≤◌}
use mathlib.Core.Path.{◌≡◌, refl}
use mathlib.Core.Bool.{Bool, true, false, cond}
use mathlib.Core.List.{List}
use native.Mathlib.Omega.{arith}
use borrow.Author.Tests.{le-ltb, eq-eqb, ne_eqb, ltb-false}
use lib.Dec.{eqb, ltb}
use lib.ListN.{length}
use Rattle.refusals.specs.RefusedCalls.{Answer}
use Rattle.refusals.specs.RefusedCalls.Answer.{gives, refused}
use Rattle.flux_timings.specs.Timings.{first_out, timings_judged}
use Rattle.flux_timings.proofs.FirstOut.{out_within}

-- a refusal is that of the whole call, whatever would have answered next
module _ {A : Type 0} (ts : List ℕ) (next : Answer A) where
  pub judged_refused : {number value : ℕ} → refused number value ≡ timings_judged ts (gives (tt {0})) → refused number value ≡ timings_judged ts next
  unfolding timings_judged
  judged_refused {number} {value} e = go (eqb (length ts) 0) (ltb 65536 (length ts)) (ltb (first_out ts) (length ts)) e
    where
      go : (x y z : Bool)
          → refused number value ≡ cond x (refused 6 0) (cond y (refused 7 (length ts)) (cond z (refused 8 (first_out ts)) (gives (tt {0}))))
          → refused number value ≡ cond x (refused 6 0) (cond y (refused 7 (length ts)) (cond z (refused 8 (first_out ts)) next))
      go true y z e = cc
      go false true z e = cc
      go false false true e = cc
      go false false false e = cc

  -- else next answers
  pub judged_good : gives (tt {0}) ≡ timings_judged ts (gives (tt {0})) → next ≡ timings_judged ts next
  unfolding timings_judged
  judged_good e = go (eqb (length ts) 0) (ltb 65536 (length ts)) (ltb (first_out ts) (length ts)) e
    where
      go : (x y z : Bool)
          → gives (tt {0}) ≡ cond x (refused 6 0) (cond y (refused 7 (length ts)) (cond z (refused 8 (first_out ts)) (gives (tt {0}))))
          → next ≡ cond x (refused 6 0) (cond y (refused 7 (length ts)) (cond z (refused 8 (first_out ts)) next))
      go true y z e = cc
      go false true z e = cc
      go false false true e = cc
      go false false false e = refl

-- and the timings are few, and all in range
module _ (ts : List ℕ) (good : gives (tt {0}) ≡ timings_judged ts (gives (tt {0}))) where
  both : (length ts ≤ 65536) × (first_out ts ≡ length ts)
  unfolding timings_judged
  both = go (eqb (length ts) 0) (ltb 65536 (length ts)) (ltb (first_out ts) (length ts)) refl refl good
    where
      go : (x y z : Bool) → ltb 65536 (length ts) ≡ y → ltb (first_out ts) (length ts) ≡ z
          → gives (tt {0}) ≡ cond x (refused 6 0) (cond y (refused 7 (length ts)) (cond z (refused 8 (first_out ts)) (gives (tt {0}))))
          → (length ts ≤ 65536) × (first_out ts ≡ length ts)
      go true y z f g e = cc
      go false true z f g e = cc
      go false false true f g e = cc
      go false false false f g e =
          (ltb-false 65536 (length ts) f, let k = ltb-false (first_out ts) (length ts) g in omega (arith, out_within ts))

  pub judged_few : length ts ≤ 65536
  judged_few = both.0

  pub judged_in_range : first_out ts ≡ length ts
  judged_in_range = both.1

-- no timings are refused, and timings that are few and all in range are not
module _ {A : Type 0} (ts : List ℕ) (next : Answer A) where
  pub no_timings : length ts ≡ 0 → refused 6 0 ≡ timings_judged ts next
  unfolding timings_judged
  no_timings e = rw (eq-eqb (length ts) 0 e)

  pub timings-accepted : (length ts ≡ 0 → ⊥) → length ts ≤ 65536 → first_out ts ≡ length ts → next ≡ timings_judged ts next
  unfolding timings_judged
  timings-accepted some few e = rw (ne_eqb (length ts) 0 some, le-ltb 65536 (length ts) few, e, le-ltb (length ts) (length ts) (omega arith))
