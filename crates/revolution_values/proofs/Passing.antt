-- Passing over values: a value and then the bytes after it are those bytes in one. Assumes nothing.
use Prim.Native.Nat.{ℕ, suc, ◌+◌, ◌-◌, ◌*◌, ◌/◌, ◌≤◌, ◌<◌, min}
use mathlib.Core.Path.{◌≡◌, refl, sym, ◌∙◌, ap, subst}
use mathlib.Core.Bool.{Bool, true, false, cond}
use mathlib.Core.List.{List, [], ◌∷◌, ◌++◌}
use Rattle.std.specs.Prelude.{Option, Some, None, slice_get}
use native.Mathlib.Omega.{arith}
use native.Mathlib.Decide.{dec_le}
use native.Mathlib.Nat.{add-zero, zero-add, lt_of_not-le, min-le_right, min-eq_left}
use borrow.Author.Tests.{eq-eqb, ne_eqb, lt-ltb, le-ltb, ltb-true, ltb-false}
use lib.Dec.{eqb, ltb}
use lib.ListN.{length, set, get_or, drop, length-append, length-drop}
use lib.Seq.{sets, length-sets, drop-cons}
use Rattle.flux_timings.specs.Timings.{in_range}
use Rattle.flux_timings.specs.Timings.{first_out}
use Rattle.flux_timings.proofs.FirstOut.{out_within}
use Rattle.revolution_values.specs.Values.{unfinished_after_value, timings_of_value, unfinished_after, timings_ending, out_among, between, capped}
use Rattle.revolution_values.specs.PrivateContracts.{first_out_after, PassedValue, PassedOver}
use Rattle.revolution_values.specs.declared.Unfinished.{Unfinished}

-- storing one list of timings after another
pub sets-append : (list : List ℕ) (at : ℕ) (ts us : List ℕ) → sets list at (ts ++ us) ≡ sets (sets list at ts) (at + length ts) us
sets-append list at [] us = rw (add-zero at)
sets-append list at (t ∷ ts) us =
    let e : suc at + length ts ≡ at + suc (length ts) = omega arith in
    sets-append (set list at t) (suc at) ts us ∙ ap (λ (k : ℕ). sets (sets (set list at t) (suc at) ts) k us) e

-- the first out of range of one list after another
pub out-all : (ts us : List ℕ) → first_out ts ≡ length ts → first_out (ts ++ us) ≡ length ts + first_out us
unfolding first_out
out-all [] us e = omega arith
out-all (t ∷ ts) us e = go (in_range t) e (out-all ts us)
  where
    go : (x : Bool) → cond x (suc (first_out ts)) 0 ≡ suc (length ts) → (first_out ts ≡ length ts → first_out (ts ++ us) ≡ length ts + first_out us)
        → cond x (suc (first_out (ts ++ us))) 0 ≡ suc (length ts) + first_out us
    go true e more = omega (arith, more (omega arith))
    go false e more = absurd (omega arith)

pub out_some : (ts us : List ℕ) → first_out ts < length ts → first_out (ts ++ us) ≡ first_out ts
unfolding first_out
out_some [] us h = absurd (omega arith)
out_some (t ∷ ts) us h = go (in_range t) h (out_some ts us)
  where
    go : (x : Bool) → cond x (suc (first_out ts)) 0 < suc (length ts) → (first_out ts < length ts → first_out (ts ++ us) ≡ first_out ts)
        → cond x (suc (first_out (ts ++ us))) 0 ≡ cond x (suc (first_out ts)) 0
    go true h more = ap suc (more (omega arith))
    go false h more = refl

-- the same of the first of them that is out of range, where one is
module _ (count : ℕ) (ts us : List ℕ) where
  pub out-after-append : (out : Option ℕ) → first_out_after count out (ts ++ us) ≡ first_out_after (count + length ts) (first_out_after count out ts) us
  unfolding first_out_after
  out-after-append (Some out) = refl
  out-after-append None = go (dec_le (length ts) (first_out ts)) (dec_le (length us) (first_out us))
    where
      go : Dec (length ts ≤ first_out ts) → Dec (length us ≤ first_out us)
          → first_out_after count None (ts ++ us) ≡ first_out_after (count + length ts) (first_out_after count None ts) us
      go (yes l) (yes m) =
          let all : first_out ts ≡ length ts = omega (arith, out_within ts) in
          let e : first_out (ts ++ us) ≡ length ts + first_out us = out-all ts us all in
          rw (le-ltb (first_out ts) (length ts) l, le-ltb (first_out us) (length us) m, le-ltb (first_out (ts ++ us)) (length (ts ++ us)) (omega (arith, e, length-append ts us, m)))
      go (yes l) (no m) =
          let all : first_out ts ≡ length ts = omega (arith, out_within ts) in
          let some : first_out us < length us = lt_of_not-le m in
          let e : first_out (ts ++ us) ≡ length ts + first_out us = out-all ts us all in
          rw (le-ltb (first_out ts) (length ts) l, lt-ltb (first_out us) (length us) some, lt-ltb (first_out (ts ++ us)) (length (ts ++ us)) (omega (arith, e, length-append ts us, some)))
          (ap Some (omega (arith, e)))
      go (no l) _ =
          let some : first_out ts < length ts = lt_of_not-le l in
          let e : first_out (ts ++ us) ≡ first_out ts = out_some ts us some in
          rw (lt-ltb (first_out ts) (length ts) some, lt-ltb (first_out (ts ++ us)) (length (ts ++ us)) (omega (arith, e, length-append ts us, some))) (ap Some (omega (arith, e)))

pub out_of_none : (count : ℕ) (out : Option ℕ) → out ≡ first_out_after count out []
unfolding first_out_after first_out
out_of_none count (Some out) = refl
out_of_none count None = refl

-- at most one timing ends with a value
pub one-timing : (zeros value : ℕ) → length (timings_of_value zeros value) ≤ 1
unfolding timings_of_value
one-timing zeros value = go (eqb value 0)
  where
    go : (x : Bool) → length (cond x [] (25 * (65536 * zeros + value) ∷ [])) ≤ 1
    go true = omega arith
    go false = omega arith

-- a value, of which the first byte was held, and then what comes after it
module _ (high low : ℕ) {zeros count : ℕ} {out : Option ℕ} {value : ℕ} {list : List ℕ} {z c : ℕ} {o : Option ℕ} {l : List ℕ} (is : value ≡ 256 * high + low)
    (v : PassedValue zeros count out value list z c o l) where
  after_is : (bytes : List ℕ) → unfinished_after (record { held = Some high; zeros = zeros }) (low ∷ bytes) ≡ unfinished_after (between z) bytes
  unfolding unfinished_after
  after_is bytes = rw (← is) (ap (λ (u : Unfinished). unfinished_after u bytes) (sym v.zeros_are))

  ending-is : (bytes : List ℕ)
      → timings_ending (record { held = Some high; zeros = zeros }) (low ∷ bytes) ≡ timings_of_value zeros value ++ timings_ending (between z) bytes
  unfolding timings_ending
  ending-is bytes = rw (← is) (ap (λ (u : Unfinished). timings_of_value zeros value ++ timings_ending u bytes) (sym v.zeros_are))

  pub passed-held : {bytes : List ℕ} {next : Unfinished} {total : ℕ} {first : Option ℕ} {after : List ℕ} → PassedOver (between z) c o bytes l next total first after
      → PassedOver (record { held = Some high; zeros = zeros }) count out (low ∷ bytes) list next total first after
  passed-held {bytes} {next} {total} {first} {after} p =
      let ts = timings_of_value zeros value in
      let us = timings_ending (between z) bytes in
      let e = ending-is bytes in
      record {
        unfinished_is = p.unfinished_is ∙ sym (after_is bytes);
        count_is = omega (arith, p.count_is, v.count_is, length-append ts us, ap length e);
        out_is = p.out_is ∙ rw (v.count_is, v.out_is, e) (sym (out-after-append count ts us out));
        list_is = p.list_is ∙ rw (v.count_is, v.list_is, e) (sym (sets-append list count ts us));
      }

  -- both bytes
  pub passed-value : {bytes : List ℕ} {next : Unfinished} {total : ℕ} {first : Option ℕ} {after : List ℕ} → PassedOver (between z) c o bytes l next total first after
      → PassedOver (between zeros) count out (high ∷ low ∷ bytes) list next total first after
  unfolding unfinished_after timings_ending
  passed-value p =
      let q = passed-held p in
      record { unfinished_is = q.unfinished_is; count_is = q.count_is; out_is = q.out_is; list_is = q.list_is }

-- no bytes
pub passed-nothing : (unfinished : Unfinished) (count : ℕ) (out : Option ℕ) (list : List ℕ) → PassedOver unfinished count out [] list unfinished count out list
unfolding unfinished_after timings_ending
passed-nothing unfinished count out list = record { unfinished_is = refl; count_is = omega arith; out_is = out_of_none count out; list_is = refl }

pub passed-none : (unfinished : Unfinished) (list : List ℕ) {bytes : List ℕ} → length bytes ≡ 0 → PassedOver unfinished 0 None bytes list unfinished 0 None list
passed-none unfinished list {bytes = []} e = passed-nothing unfinished 0 None list
passed-none unfinished list {bytes = byte ∷ bytes} e = absurd (omega arith)

-- what a value brings: a 0 nothing but a zero more, any other a timing
module _ (zeros value : ℕ) where
  pub zero-ends : value ≡ 0 → timings_of_value zeros value ≡ []
  unfolding timings_of_value
  zero-ends e = rw (eq-eqb value 0 e)

  pub zero-leaves : value ≡ 0 → unfinished_after_value zeros value ≡ between (min (zeros + 1) 7)
  unfolding unfinished_after_value
  zero-leaves e = rw (eq-eqb value 0 e)

  pub other-ends : (value ≡ 0 → ⊥) → timings_of_value zeros value ≡ 25 * (65536 * zeros + value) ∷ []
  unfolding timings_of_value
  other-ends e = rw (ne_eqb value 0 e)

  pub other-leaves : (value ≡ 0 → ⊥) → unfinished_after_value zeros value ≡ between 0
  unfolding unfinished_after_value
  other-leaves e = rw (ne_eqb value 0 e)

-- one value, as the code takes it
module _ (zeros count : ℕ) (out : Option ℕ) (value : ℕ) (list : List ℕ) where
  pub value-zero : value ≡ 0 → {z : ℕ} → z ≡ min (zeros + 1) 7 → PassedValue zeros count out value list z count out list
  unfolding timings_ending
  value-zero e s =
      let p = passed-nothing (between 0) count out list in
      let t = zero-ends zeros value e in
      record {
        zeros_are = ap between s ∙ sym (zero-leaves zeros value e);
        count_is = rw t p.count_is;
        out_is = rw t p.out_is;
        list_is = rw t p.list_is;
      }

  pub value-timing : (value ≡ 0 → ⊥) → {first : Option ℕ} {after : List ℕ} → first ≡ first_out_after count out (25 * (65536 * zeros + value) ∷ [])
      → after ≡ set list count (25 * (65536 * zeros + value)) → PassedValue zeros count out value list 0 (count + 1) first after
  value-timing e f l =
      let t = other-ends zeros value e in
      record {
        zeros_are = sym (other-leaves zeros value e);
        count_is = rw t;
        out_is = rw t f;
        list_is = rw t l;
      }

-- one timing more
pub out-in : (count timing : ℕ) (out : Option ℕ) → in_range timing ≡ true → out ≡ first_out_after count out (timing ∷ [])
unfolding first_out_after first_out
out-in count timing (Some first) r = refl
out-in count timing None r = rw r

module _ (count timing : ℕ) (out : Option ℕ) where
  pub out-before : {first : ℕ} → out ≡ Some first → out ≡ first_out_after count out (timing ∷ [])
  unfolding first_out_after
  out-before e = rw e

  pub out-out : out ≡ None → in_range timing ≡ false → Some count ≡ first_out_after count out (timing ∷ [])
  unfolding first_out_after first_out
  out-out e r = rw (e, r) (ap Some (omega arith))

-- the end of the bytes, after which at most one is held
pub passed-end : (zeros count : ℕ) (out : Option ℕ) (list : List ℕ) (bytes : List ℕ) → length bytes < 2 → {next : Unfinished} → next ≡ unfinished_after (between zeros) bytes
    → PassedOver (between zeros) count out bytes list next count out list
unfolding timings_ending
passed-end zeros count out list [] l e =
    let p = passed-nothing (between zeros) count out list in
    record { unfinished_is = e; count_is = p.count_is; out_is = p.out_is; list_is = p.list_is }
passed-end zeros count out list (byte ∷ []) l e =
    let p = passed-nothing (between zeros) count out list in
    record { unfinished_is = e; count_is = p.count_is; out_is = p.out_is; list_is = p.list_is }
passed-end _ count out list (byte ∷ next ∷ bytes) l e = absurd (omega arith)

-- what is held at the end of values, behind at most one byte
module _ (zeros : ℕ) where
  held-of : (rest : List ℕ) → length rest < 2 → record { held = slice_get rest 0; zeros = zeros } ≡ unfinished_after (between zeros) rest
  unfolding unfinished_after
  held-of [] h = refl
  held-of (byte ∷ []) h = refl
  held-of (byte ∷ next ∷ rest) h = absurd (omega arith)

  pub held-is : (values : List ℕ) {rest : List ℕ} → rest ≡ drop (length values / 2 * 2) values → {held : Option ℕ} → held ≡ slice_get rest 0
      → record { held = held; zeros = zeros } ≡ unfinished_after (between zeros) (drop (2 * (length values / 2)) values)
  held-is values r {held} e =
      let i : 2 * (length values / 2) ≡ length values / 2 * 2 = omega arith in
      rw (e, i, ← r) (held-of _ (omega (arith, ap length r, length-drop (length values / 2 * 2) values)))

-- from one place between values to a later one: what is passed from there on is passed from here on
pub record Reaches (zeros count : ℕ) (out : Option ℕ) (bytes list : List ℕ) (z c : ℕ) (o : Option ℕ) (rest l : List ℕ) : Type 0 where
  pub onward : {next : Unfinished} {total : ℕ} {first : Option ℕ} {after : List ℕ} → PassedOver (between z) c o rest l next total first after
      → PassedOver (between zeros) count out bytes list next total first after

-- the state of the loop over values after i of them
pub record AtValue (zeros count : ℕ) (out : Option ℕ) (values list : List ℕ) (z c : ℕ) (o : Option ℕ) (i : ℕ) (l : List ℕ) : Type 0 where
  pub count_low : c ≤ count + i
  pub long : length l ≡ length list
  pub reaches : Reaches zeros count out values list z c o (drop (2 * i) values) l

pub at-start : (zeros count : ℕ) (out : Option ℕ) (values list : List ℕ) → AtValue zeros count out values list zeros count out 0 list
at-start _ count out values list = record { count_low = omega arith; long = refl; reaches = record { onward = λ p. p } }

-- at most 7 zeros are counted
pub zeros-few : (zeros value : ℕ) → (unfinished_after_value zeros value).zeros ≤ 7
unfolding unfinished_after_value
zeros-few zeros value = go (eqb value 0)
  where
    go : (x : Bool) → cond x (min (zeros + 1) 7) 0 ≤ 7
    go true = min-le_right (zeros + 1) 7
    go false = omega arith

-- two bytes more at byte i
pub two-more : (bytes : List ℕ) (i : ℕ) → 2 ≤ length bytes - i → drop i bytes ≡ get_or bytes i 0 ∷ get_or bytes (i + 1) 0 ∷ drop (i + 2) bytes
two-more bytes i h =
    let e : i + 2 ≡ suc (suc i) = omega arith in
    let f : i + 1 ≡ suc i = omega arith in
    rw (e, f) (drop-cons bytes i 0 (omega arith) ∙ ap (λ (x : List ℕ). get_or bytes i 0 ∷ x) (drop-cons bytes (suc i) 0 (omega arith)))

-- a turn
pub at_next : {zeros count : ℕ} {out : Option ℕ} {values list : List ℕ} {z c : ℕ} {o : Option ℕ} {i : ℕ} {l : List ℕ} → AtValue zeros count out values list z c o i l
    → i < length values / 2 → {value : ℕ} → value ≡ 256 * get_or values (2 * i) 0 + get_or values (2 * i + 1) 0 → {z' c' : ℕ} {o' : Option ℕ} {l' : List ℕ}
    → PassedValue z c o value l z' c' o' l' → AtValue zeros count out values list z' c' o' (i + 1) l'
at_next {values = values} {z = z} {c = c} {o = o} {i = i} {l = l} at h {value = value} is v =
    let s = two-more values (2 * i) (omega arith) in
    let j : 2 * (i + 1) ≡ 2 * i + 2 = omega arith in
    record {
      count_low = omega (arith, v.count_is, one-timing z value, at.count_low);
      long = ap length v.list_is ∙ length-sets l c (timings_of_value z value) ∙ at.long;
      reaches =
          record {
            onward = λ p. at.reaches.onward (rw s (passed-value (get_or values (2 * i) 0) (get_or values (2 * i + 1) 0) is v (rw (← j) p)));
          };
    }

-- the end
pub at-end : {zeros count : ℕ} {out : Option ℕ} {values list : List ℕ} {z c : ℕ} {o : Option ℕ} {i : ℕ} {l : List ℕ} → AtValue zeros count out values list z c o i l
    → i ≡ length values / 2 → {next : Unfinished} → next ≡ unfinished_after (between z) (drop (2 * (length values / 2)) values)
    → PassedOver (between zeros) count out values list next c o l
at-end {values = values} {z = z} {c = c} {o = o} {i = i} {l = l} at h e =
    at.reaches.onward (passed-end z c o l (drop (2 * i) values) (omega (arith, length-drop (2 * i) values)) (rw h e))

-- a whole portion, by what is held before it
module _ (unfinished : Unfinished) (list : List ℕ) where
  pub pass-from-nothing : unfinished.held ≡ None → {portion : List ℕ} {next : Unfinished} {total : ℕ} {first : Option ℕ} {after : List ℕ}
      → PassedOver (between unfinished.zeros) 0 None portion list next total first after → PassedOver unfinished 0 None portion list next total first after
  pass-from-nothing e {portion} {next} {total} {first} {after} p =
      subst (λ (h : Option ℕ). PassedOver (record { held = h; zeros = unfinished.zeros }) 0 None portion list next total first after) (sym e) p

  pub pass-from-held : {high : ℕ} → unfinished.held ≡ Some high → {low : ℕ} {rest : List ℕ} {value : ℕ} → value ≡ 256 * high + low
      → {z c : ℕ} {o : Option ℕ} {l : List ℕ} → PassedValue unfinished.zeros 0 None value list z c o l → {next : Unfinished} {total : ℕ} {first : Option ℕ} {after : List ℕ}
      → PassedOver (between z) c o rest l next total first after → PassedOver unfinished 0 None (low ∷ rest) list next total first after
  pass-from-held {high} e {low} {rest} {value} is v {next} {total} {first} {after} p =
      subst (λ (h : Option ℕ). PassedOver (record { held = h; zeros = unfinished.zeros }) 0 None (low ∷ rest) list next total first after) (sym e)
      (passed-held high low is v p)

-- a value ends at most one timing more
pub value-few : {zeros count : ℕ} {out : Option ℕ} {value : ℕ} {list : List ℕ} {z c : ℕ} {o : Option ℕ} {l : List ℕ} → PassedValue zeros count out value list z c o l → c ≤ count + 1
value-few {zeros} {value = value} v = omega (arith, v.count_is, one-timing zeros value)

-- a pass from the first of some bytes on, where no timing came before
pub out-of-all : (ts : List ℕ) → first_out_after 0 None ts ≡ out_among ts
unfolding first_out_after
out-of-all ts = rw (zero-add (first_out ts))

-- few zeros are counted as they are
pub few-as-they-are : (unfinished : Unfinished) → unfinished.zeros ≤ 7 → capped unfinished ≡ unfinished
few-as-they-are unfinished h = rw (min-eq_left h)

-- the first of some timings that is out of range, and where all are in it
module _ (ts : List ℕ) {out : Option ℕ} (is : out ≡ out_among ts) where
  pub out-some-is : {first : ℕ} → out ≡ Some first → (first_out ts < length ts) × (first ≡ first_out ts)
  out-some-is {first} e = go (ltb (first_out ts) (length ts)) refl (sym e ∙ is)
    where
      go : (x : Bool) → ltb (first_out ts) (length ts) ≡ x → Some first ≡ cond x (Some (first_out ts)) None → (first_out ts < length ts) × (first ≡ first_out ts)
      go true x e = (ltb-true (first_out ts) (length ts) x, cc)
      go false x e = absurd cc

  pub out-none-is : out ≡ None → length ts ≤ first_out ts
  out-none-is e = go (ltb (first_out ts) (length ts)) refl (sym e ∙ is)
    where
      go : (x : Bool) → ltb (first_out ts) (length ts) ≡ x → None ≡ cond x (Some (first_out ts)) None → length ts ≤ first_out ts
      go true x e = absurd cc
      go false x e = ltb-false (first_out ts) (length ts) x
