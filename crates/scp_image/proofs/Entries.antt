-- The entries of an image: the loops over them, and where their blocks lie. Assumes nothing.
use Rattle.std.proofs.Common.{◌≡◌, ℕ, zero, suc, ◌+◌, ◌-◌, ◌<◌, ◌≤◌, min, Bool, true, false, cond, Some, None, not, ◌&&◌, eqb, ltb, List, ◌++◌, length, drop, set, sym, refl, ap, ◌∙◌, ⊎_elim, le_trans, eq-or-lt_of_le, zero-add, arith, length-set, ltb-false, ltb-true, le-ltb, lt-ltb, ne_eqb}
use mir.Val.{bool_byte}
use Rattle.basis.specs.Lists.{listed, written_over}
use Rattle.basis.specs.Search.{least, count}
use Rattle.basis.proofs.Bools.{and_right}
use Rattle.basis.proofs.Lists.{length-listed, listed_more}
use Rattle.basis.proofs.Search.{least_step, least-hit, least-end}
use Rattle.scp_image.specs.Header.{place_below}
use Rattle.scp_image.specs.Entries.{start_of, nearer, end_among, bad_entry, first_bad, place_number}

-- a start cuts the end short, and never puts it off
pub nearer-le : (e f start other end : ℕ) → nearer e f start other end ≤ end
unfolding nearer
nearer-le e f start other end =
    let a = not (eqb f e) in
    let b = not (ltb other start) in
    go (a && (b && ltb other end)) (λ t. ltb-true other end (and_right b _ (and_right a _ t)))
  where
    go : (x : Bool) → (x ≡ true → other < end) → cond x other end ≤ end
    go true h = let l = h refl in omega arith
    go false h = omega arith

pub nearer-other : (e f start other end : ℕ) → (f ≡ e → ⊥) → start ≤ other → nearer e f start other end ≤ other
unfolding nearer
nearer-other e f start other end d h = rw (ne_eqb f e d, le-ltb other start h) (go (ltb other end) (ltb-false other end))
  where
    go : (x : Bool) → (x ≡ false → end ≤ other) → cond x other end ≤ other
    go true h = omega arith
    go false h = h refl

module _ (image : List ℕ) (limit e : ℕ) where
  pub end-in-limit : (k : ℕ) → end_among image limit e k ≤ limit
  unfolding end_among
  end-in-limit zero = omega arith
  end-in-limit (suc k) = le_trans (nearer-le e k (start_of image e) (start_of image k) (end_among image limit e k)) (end-in-limit k)

  pub ends-before : (k f : ℕ) → f < k → (f ≡ e → ⊥) → start_of image e ≤ start_of image f → end_among image limit e k ≤ start_of image f
  unfolding end_among
  ends-before zero f h d s = absurd (omega arith)
  ends-before (suc k) f h d s =
      let n : f ≤ k = omega arith in
      ⊎_elim
      (λ q. rw (← q) (nearer-other e f (start_of image e) (start_of image f) (end_among image limit e f) d s))
      (λ l. le_trans (nearer-le e k (start_of image e) (start_of image k) (end_among image limit e k)) (ends-before k f l d s))
      (eq-or-lt_of_le n)

-- the search for a bad entry: none before e is
module _ (image : List ℕ) (limit : ℕ) where
  module _ {e : ℕ} (so_far : least (bad_entry image limit) (168 - e) e ≡ first_bad image limit) where
    pub none_more : e < 168 → bad_entry image limit e ≡ false → least (bad_entry image limit) (168 - (e + 1)) (e + 1) ≡ first_bad image limit
    none_more h f = sym (least_step (bad_entry image limit) e 168 h f) ∙ so_far

    pub found_bad : e < 168 → bad_entry image limit e ≡ true → Some e ≡ place_below 168 (first_bad image limit)
    found_bad h t =
        let is : e ≡ first_bad image limit = sym (least-hit (bad_entry image limit) e 168 h t) ∙ so_far in
        rw (← is, lt-ltb e 168 h)

    pub found_none : 168 ≤ e → None ≡ place_below 168 (first_bad image limit)
    found_none h =
        let is : e ≡ first_bad image limit = sym (least-end (bad_entry image limit) e 168 h) ∙ so_far in
        rw (← is, le-ltb e 168 h)

-- where a search found nothing
pub none-below : (bound place : ℕ) → None ≡ place_below bound place → bound ≤ place
none-below bound place e = go (ltb place bound) refl e
  where
    go : (x : Bool) → ltb place bound ≡ x → None ≡ cond x (Some place) None → bound ≤ place
    go true x e = absurd cc
    go false x e = ltb-false place bound x

-- the first i numbers are written
module _ (image : List ℕ) (limit : ℕ) where
  pub record Written (list₀ list : List ℕ) (i : ℕ) : Type 0 where
    pub long : length list ≡ length list₀
    pub front : list ≡ listed (place_number image limit) i ++ drop i list₀

  pub none_written : (list : List ℕ) → Written list list 0
  unfolding listed
  none_written list = record { long = refl; front = refl }

  module _ {list₀ list : List ℕ} {i : ℕ} (so_far : Written list₀ list i) where
    pub one_written : {number : ℕ} → i < length list₀ → number ≡ place_number image limit i → Written list₀ (set list i number) (i + 1)
    one_written h is =
        record {
          long = simp length-set so_far.long;
          front = listed_more (place_number image limit) 0 i _ list₀ _ so_far.front h is;
        }

    pub all_written : i ≡ min (length list₀) 336 → list ≡ written_over (listed (place_number image limit) (min (length list₀) 336)) list₀
    all_written e =
        let n : length (listed (place_number image limit) i) ≡ i = length-listed (place_number image limit) i in
        so_far.front ∙ ap (λ (k : ℕ). listed (place_number image limit) i ++ drop k list₀) (sym n) ∙ ap (λ (k : ℕ). written_over (listed (place_number image limit) k) list₀) e

-- a truth as a number
pub one_or_none : (x : Bool) → bool_byte x ≡ cond x 1 0
one_or_none true = refl
one_or_none false = refl

-- the first e of q places are counted
module _ (test : ℕ → Bool) (q : ℕ) where
  pub record Tallied (passed e : ℕ) : Type 0 where
    pub few : passed ≤ e
    pub left : passed + count test (q - e) e ≡ count test q 0

  pub none_tallied : Tallied 0 0
  none_tallied =
      let s : q - 0 ≡ q = omega arith in
      record { few = omega arith; left = rw (zero-add, s) refl }

  module _ {passed e : ℕ} (so_far : Tallied passed e) where
    pub one_tallied : {one : ℕ} → e < q → one ≡ cond (test e) 1 0 → Tallied (passed + one) (e + 1)
    unfolding count
    one_tallied {one} h o =
        let n : q - e ≡ suc (q - (e + 1)) = omega arith in
        let c : count test (q - e) e ≡ one + count test (q - (e + 1)) (e + 1) = rw (n, o) refl in
        let small : one ≤ 1 = rw o (at_most_one (test e)) in
        record { few = omega (arith, so_far.few); left = omega (arith, so_far.left, c) }
      where
        at_most_one : (x : Bool) → cond x 1 0 ≤ 1
        at_most_one true = omega arith
        at_most_one false = omega arith

    pub all_tallied : q ≤ e → passed ≡ count test q 0
    unfolding count
    all_tallied h =
        let n : q - e ≡ 0 = omega arith in
        let c : count test (q - e) e ≡ 0 = rw n refl in
        omega (arith, so_far.left, c)
