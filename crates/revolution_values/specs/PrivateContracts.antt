-- What the contracts of the functions need that pass over bytes. Assumes nothing.
use Rattle.std.specs.Prelude.{ℕ, ◌+◌, ◌*◌, ◌≡◌, Bool, true, cond, not, ◌&&◌, List, [], ◌∷◌, eqb, ltb, length, Option, Some, None}
use Rattle.std.proofs.lemmas.List.Edits.{sets}
use Rattle.flux_timings.specs.Timings.{first_out}
use Rattle.revolution_values.specs.Values.{unfinished_after_value, timings_of_value, unfinished_after, timings_ending, between}
use Rattle.revolution_values.specs.declared.Unfinished.{Unfinished}

-- the index of the first timing out of range, where `count` timings came before and `out` is that of those, where one is
unfoldable pub first_out_after : ℕ → Option ℕ → List ℕ → Option ℕ
first_out_after count None ts = cond (ltb (first_out ts) (length ts)) (Some (count + first_out ts)) None
first_out_after count (Some out) ts = Some out

-- a value passed, after `count` timings of which `out` is the first out of range: the zeros before the next, how many timings there are
-- then, which is the first out of range, and the list with it stored, as far as the list reaches
pub record PassedValue (zeros count : ℕ) (out : Option ℕ) (value : ℕ) (list : List ℕ) (next total : ℕ) (first : Option ℕ) (after : List ℕ) : Type 0 where
  pub zeros_are : between next ≡ unfinished_after_value zeros value
  pub count_is : total ≡ count + length (timings_of_value zeros value)
  pub out_is : first ≡ first_out_after count out (timings_of_value zeros value)
  pub list_is : after ≡ sets list count (timings_of_value zeros value)

-- bytes passed, in the same way: what is unfinished after them, and the rest
pub record PassedOver (unfinished : Unfinished) (count : ℕ) (out : Option ℕ) (bytes list : List ℕ) (next : Unfinished) (total : ℕ) (first : Option ℕ) (after : List ℕ) : Type 0 where
  pub unfinished_is : next ≡ unfinished_after unfinished bytes
  pub count_is : total ≡ count + length (timings_ending unfinished bytes)
  pub out_is : first ≡ first_out_after count out (timings_ending unfinished bytes)
  pub list_is : after ≡ sets list count (timings_ending unfinished bytes)

-- no value of some bytes is a 0
unfoldable pub no_zeros : List ℕ → Bool
no_zeros [] = true
no_zeros (high ∷ []) = true
no_zeros (high ∷ low ∷ bytes) = not (eqb (256 * high + low) 0) && no_zeros bytes
