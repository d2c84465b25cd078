-- Bytes without a value of 0: each value ends a timing, and it is in range. Assumes nothing.
use Prim.Native.Nat.{ℕ, zero, suc, ◌+◌, ◌-◌, ◌*◌, ◌/◌, ◌≤◌, ◌<◌, min}
use mathlib.Core.Path.{◌≡◌, refl, sym, ◌∙◌, ap}
use mathlib.Core.Bool.{true, false, not, ◌&&◌}
use mathlib.Core.List.{List, [], ◌∷◌}
use native.Mathlib.Decide.{dec_le}
use native.Mathlib.Nat.{add-zero, lt_of_not-le, min-eq_left, min-eq_right}
use native.Mathlib.Omega.{arith}
use Rattle.std.specs.Prelude.{Option, Some, None}
use borrow.Author.Tests.{not-true, eqb-false, ne_eqb, le-leb, le-ltb}
use lib.Dec.{eqb}
use lib.ListN.{length, set, get_or, drop, length-set, length-drop}
use lib.Seq.{sets, set_out}
use Rattle.basis.proofs.Bools.{and_left, and_right}
use Rattle.flux_timings.specs.Timings.{in_range}
use Rattle.flux_timings.specs.Timings.{first_out}
use Rattle.revolution_values.specs.Values.{unfinished_after_value, timings_of_value, unfinished_after, timings_ending, between}
use Rattle.revolution_values.specs.PrivateContracts.{first_out_after, PassedOver, no_zeros}
use Rattle.revolution_values.specs.declared.Unfinished.{Unfinished}
use Rattle.revolution_values.proofs.Passing.{other-ends, other-leaves, two-more}

-- the look for a 0: after i values, none of which is one
module _ (bytes : List ℕ) (i : ℕ) (h : i < length bytes / 2) (before : no_zeros (drop (2 * i) bytes) ≡ no_zeros bytes) where
  pub other-value : (get_or bytes (2 * i + 1) 0 ≡ 0 → get_or bytes (2 * i) 0 ≡ 0 → ⊥) → no_zeros (drop (2 * (i + 1)) bytes) ≡ no_zeros bytes
  unfolding no_zeros
  other-value some =
      let v = 256 * get_or bytes (2 * i) 0 + get_or bytes (2 * i + 1) 0 in
      let n : eqb v 0 ≡ false = ne_eqb v 0 (λ e. some (omega arith) (omega arith)) in
      let j : 2 * (i + 1) ≡ 2 * i + 2 = omega arith in
      let s : no_zeros (drop (2 * i) bytes) ≡ no_zeros (drop (2 * i + 2) bytes) = rw (two-more bytes (2 * i) (omega arith), n) in
      rw j (sym s ∙ before)

  pub zero-value : get_or bytes (2 * i + 1) 0 ≡ 0 → get_or bytes (2 * i) 0 ≡ 0 → false ≡ no_zeros bytes
  unfolding no_zeros
  zero-value low high = let s : false ≡ no_zeros (drop (2 * i) bytes) = rw (two-more bytes (2 * i) (omega arith), high, low) in s ∙ before

pub no-value-left : (values : List ℕ) (i : ℕ) → i ≡ length values / 2 → no_zeros (drop (2 * i) values) ≡ true
unfolding no_zeros
no-value-left values i h = go (drop (2 * i) values) (omega (arith, length-drop (2 * i) values))
  where
    go : (l : List ℕ) → length l < 2 → no_zeros l ≡ true
    go [] s = refl
    go (x ∷ []) s = refl
    go (x ∷ y ∷ l) s = absurd (omega arith)

-- k values, and at most one byte more
pub record AllEnd (bytes : List ℕ) (k : ℕ) : Type 0 where
  pub leaves : unfinished_after (between 0) (drop (2 * k) bytes) ≡ unfinished_after (between 0) bytes
  pub many : length (timings_ending (between 0) bytes) ≡ k
  pub all_in : first_out (timings_ending (between 0) bytes) ≡ k

small-in-range : (v : ℕ) → (v ≡ 0 → ⊥) → v < 65536 → in_range (25 * (65536 * 0 + v)) ≡ true
unfolding in_range
small-in-range v some h = rw (le-leb 1 (25 * (65536 * 0 + v)) (omega (arith, some)), le-leb (25 * (65536 * 0 + v)) 10000000 (omega arith))

one-more-in : (t : ℕ) (ts : List ℕ) → in_range t ≡ true → first_out (t ∷ ts) ≡ suc (first_out ts)
unfolding first_out
one-more-in t ts e = rw e

two-ending : (high low : ℕ) (bytes : List ℕ) → timings_of_value 0 (256 * high + low) ≡ 25 * (65536 * 0 + (256 * high + low)) ∷ []
    → unfinished_after_value 0 (256 * high + low) ≡ between 0
    → timings_ending (between 0) (high ∷ low ∷ bytes) ≡ 25 * (65536 * 0 + (256 * high + low)) ∷ timings_ending (between 0) bytes
unfolding timings_ending
two-ending high low bytes e l = rw (e, l)

pub all_end : (k : ℕ) (bytes : List ℕ) → 2 * k ≤ length bytes → length bytes < 2 * k + 2 → ((i : ℕ) → get_or bytes i 0 < 256) → no_zeros bytes ≡ true → AllEnd bytes k
unfolding unfinished_after timings_ending first_out no_zeros
all_end zero [] a b small e = record { leaves = refl; many = refl; all_in = refl }
all_end zero (x ∷ []) a b small e = record { leaves = refl; many = refl; all_in = refl }
all_end zero (x ∷ y ∷ bytes) a b small e = absurd (omega arith)
all_end (suc k) [] a b small e = absurd (omega arith)
all_end (suc k) (x ∷ []) a b small e = absurd (omega arith)
all_end (suc k) (high ∷ low ∷ bytes) a b small e =
    let v = 256 * high + low in
    let n = not (eqb v 0) in
    let some : v ≡ 0 → ⊥ = eqb-false v 0 (not-true (eqb v 0) (and_left n (no_zeros bytes) e)) in
    let rest = all_end k bytes (omega arith) (omega arith) (λ i. small (suc (suc i))) (and_right n (no_zeros bytes) e) in
    let h : high < 256 = small 0 in
    let l : low < 256 = small 1 in
    let ends = other-ends 0 v some in
    let leaves = other-leaves 0 v some in
    let d : 2 * suc k ≡ suc (suc (2 * k)) = omega arith in
    let t : timings_ending (between 0) (high ∷ low ∷ bytes) ≡ 25 * (65536 * 0 + v) ∷ timings_ending (between 0) bytes = two-ending high low bytes ends leaves in
    record {
      leaves = rw d (rest.leaves ∙ sym (ap (λ (u : Unfinished). unfinished_after u bytes) leaves));
      many = ap length t ∙ ap suc rest.many;
      all_in = ap first_out t ∙ one-more-in (25 * (65536 * 0 + v)) (timings_ending (between 0) bytes) (small-in-range v some (omega arith)) ∙ ap suc rest.all_in;
    }

-- so such values are passed over at once, after `count` timings of which `out` is the first out of range, where one is
module _ (count : ℕ) (out : Option ℕ) (bytes list : List ℕ) (small : (i : ℕ) → get_or bytes i 0 < 256) (none : no_zeros bytes ≡ true) where
  out-kept : (o : Option ℕ) → o ≡ first_out_after count o (timings_ending (between 0) bytes)
  unfolding first_out_after
  out-kept (Some first) = refl
  out-kept None =
      let a = all_end (length bytes / 2) bytes (omega arith) (omega arith) small none in
      rw (le-ltb (first_out (timings_ending (between 0) bytes)) (length (timings_ending (between 0) bytes)) (omega (arith, a.many, a.all_in)))

  pub passed-at-once : {next : Unfinished} {after : List ℕ} → next ≡ unfinished_after (between 0) (drop (2 * (length bytes / 2)) bytes)
      → after ≡ sets list count (timings_ending (between 0) bytes)
      → PassedOver (between 0) count out bytes list next (count + length bytes / 2) out after
  passed-at-once n l =
      let a = all_end (length bytes / 2) bytes (omega arith) (omega arith) small none in
      record { unfinished_is = n ∙ a.leaves; count_is = omega (arith, a.many); out_is = out-kept out; list_is = l }

-- timings stored past the end of a list
pub sets-past : (ts list : List ℕ) (at : ℕ) → length list ≤ at → sets list at ts ≡ list
sets-past [] list at h = refl
sets-past (t ∷ ts) list at h = rw (set_out list at t h) (sets-past ts list (suc at) (omega arith))

-- storing the timings of such values from a place of the list on: after i of them
pub record Stored (values list₀ : List ℕ) (at i : ℕ) (list : List ℕ) : Type 0 where
  pub within : 2 * i ≤ length values
  pub long : length list ≡ length list₀
  pub none : no_zeros (drop (2 * i) values) ≡ true
  pub same : sets list (at + i) (timings_ending (between 0) (drop (2 * i) values)) ≡ sets list₀ at (timings_ending (between 0) values)

pub none-stored : (values list : List ℕ) (at : ℕ) → no_zeros values ≡ true → Stored values list at 0 list
none-stored values list at e = record { within = omega arith; long = refl; none = e; same = rw (add-zero at) }

pub one-stored : {values list₀ : List ℕ} {at i : ℕ} {list : List ℕ} → Stored values list₀ at i list → 2 ≤ length values - 2 * i → {value : ℕ}
    → value ≡ 256 * get_or values (2 * i) 0 + get_or values (2 * i + 1) 0 → Stored values list₀ at (i + 1) (set list (at + i) (25 * value))
unfolding no_zeros
one-stored {values} {list₀} {at} {i} {list} s h {value} is =
    let v = 256 * get_or values (2 * i) 0 + get_or values (2 * i + 1) 0 in
    let rest = drop (2 * i + 2) values in
    let d = two-more values (2 * i) h in
    let e : (not (eqb v 0) && no_zeros rest) ≡ true = ap no_zeros (sym d) ∙ s.none in
    let some : v ≡ 0 → ⊥ = eqb-false v 0 (not-true (eqb v 0) (and_left (not (eqb v 0)) (no_zeros rest) e)) in
    let t : timings_ending (between 0) (drop (2 * i) values) ≡ 25 * (65536 * 0 + v) ∷ timings_ending (between 0) rest
    = ap (timings_ending (between 0)) d ∙ two-ending (get_or values (2 * i) 0) (get_or values (2 * i + 1) 0) rest (other-ends 0 v some) (other-leaves 0 v some) in
    let w : 25 * value ≡ 25 * (65536 * 0 + v) = omega arith in
    let j : 2 * (i + 1) ≡ 2 * i + 2 = omega arith in
    let k : at + (i + 1) ≡ suc (at + i) = omega arith in
    record {
      within = omega arith;
      long = length-set list (at + i) (25 * value) ∙ s.long;
      none = rw j (and_right (not (eqb v 0)) (no_zeros rest) e);
      same = rw (j, k, w) (sym (ap (sets list (at + i)) t) ∙ s.same);
    }

-- the end: no value is left, or no place of the list
short-ends : (bytes : List ℕ) → length bytes < 2 → timings_ending (between 0) bytes ≡ []
unfolding timings_ending
short-ends [] h = refl
short-ends (x ∷ []) h = refl
short-ends (x ∷ y ∷ bytes) h = absurd (omega arith)

pub stored-end : {values list₀ : List ℕ} {at i : ℕ} {list : List ℕ} → Stored values list₀ at i list → {count : ℕ} → i ≡ count
    → count ≡ min (length values / 2) (length list₀ - at) → list ≡ sets list₀ at (timings_ending (between 0) values)
stored-end {values} {list₀} {at} {i} {list} s e m = go (dec_le (length values / 2) (length list₀ - at))
  where
    go : Dec (length values / 2 ≤ length list₀ - at) → list ≡ sets list₀ at (timings_ending (between 0) values)
    go (yes h) =
        let n : i ≡ length values / 2 = e ∙ m ∙ min-eq_left h in
        sym (ap (sets list (at + i)) (short-ends (drop (2 * i) values) (omega (arith, length-drop (2 * i) values)))) ∙ s.same
    go (no h) =
        let g : length list₀ - at ≤ length values / 2 = omega (arith, lt_of_not-le h) in
        let n : i ≡ length list₀ - at = e ∙ m ∙ min-eq_right g in
        sym (sets-past (timings_ending (between 0) (drop (2 * i) values)) list (at + i) (omega (arith, s.long))) ∙ s.same
