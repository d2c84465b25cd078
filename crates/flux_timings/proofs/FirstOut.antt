-- The first timing outside its range, over what is left of a list. Assumes nothing.
use Prim.Native.Nat.{ℕ, zero, suc, ◌+◌, ◌≤◌, ◌<◌}
use mathlib.Core.Path.{◌≡◌, refl, sym, ◌∙◌}
use mathlib.Core.Bool.{Bool, true, false, cond, ◌&&◌}
use mathlib.Core.List.{List, [], ◌∷◌}
use native.Mathlib.Numerals.{add-one}
use native.Mathlib.Omega.{arith}
use lib.ListN.{length, get_or, drop, drop_of_length-le}
use lib.Seq.{drop-cons}
use Rattle.flux_timings.specs.Timings.{in_range}
use Rattle.flux_timings.specs.Timings.{first_out}

module _ (ts : List ℕ) (i : ℕ) (h : i < length ts) where
  pub rest-is : drop i ts ≡ get_or ts i 0 ∷ drop (i + 1) ts
  rest-is = rw (add-one, drop-cons ts i 0)

  pub out_here : in_range (get_or ts i 0) ≡ false → first_out (drop i ts) ≡ 0
  unfolding first_out
  out_here e = rw (rest-is, e)

  pub out_later : in_range (get_or ts i 0) ≡ true → first_out (drop i ts) ≡ suc (first_out (drop (i + 1) ts))
  unfolding first_out
  out_later e = rw (rest-is, e)

-- one timing more: x tells of all before it, y of this one
pub all_later : (ts : List ℕ) (i : ℕ) (x y : Bool) → (x ≡ true → first_out ts ≡ i + first_out (drop i ts)) → i < length ts
    → y ≡ in_range (get_or ts i 0) → x && y ≡ true → first_out ts ≡ i + 1 + first_out (drop (i + 1) ts)
all_later ts i true y before h is e = omega (arith, before refl, out_later ts i h (sym is ∙ e))
all_later ts i false y before h is e = let z : ◌≡◌ {A = ℕ} 0 1 = cc in absurd (omega arith)

pub out_end : (ts : List ℕ) (i : ℕ) → length ts ≤ i → first_out (drop i ts) ≡ 0
unfolding first_out
out_end ts i h = rw (drop_of_length-le ts h)

pub out_within : (ts : List ℕ) → first_out ts ≤ length ts
unfolding first_out
out_within [] = omega arith
out_within (t ∷ ts) = go (in_range t) (out_within ts)
  where
    go : (x : Bool) → first_out ts ≤ length ts → cond x (suc (first_out ts)) 0 ≤ suc (length ts)
    go true h = omega arith
    go false h = omega arith

-- where there is none, every timing is in range
pub all-in-range : (ts : List ℕ) → first_out ts ≡ length ts → (i : ℕ) → i < length ts → in_range (get_or ts i 0) ≡ true
unfolding first_out
all-in-range [] e i h = absurd (omega arith)
all-in-range (t ∷ ts) e i h = go (in_range t) refl e i h (all-in-range ts)
  where
    go : (x : Bool) → in_range t ≡ x → cond x (suc (first_out ts)) 0 ≡ suc (length ts) → (j : ℕ) → j < suc (length ts)
        → (first_out ts ≡ length ts → (k : ℕ) → k < length ts → in_range (get_or ts k 0) ≡ true) → in_range (get_or (t ∷ ts) j 0) ≡ true
    go true p q zero l later = p
    go true p q (suc j) l later = later (omega arith) j (omega arith)
    go false p q j l later = absurd (omega arith)
