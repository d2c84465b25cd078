-- What is known of tracks and findings that are accepted. Assumes nothing.
use Prim.Native.Nat.{ℕ, zero, suc, ◌+◌, ◌-◌, ◌<◌, ◌≤◌}
use mathlib.Core.Path.{◌≡◌, refl, sym, ◌∙◌}
use mathlib.Core.Bool.{Bool, true, false, not, ◌&&◌, ◌||◌}
use mathlib.Core.List.{List}
use mathlib.Core.Logic.{◌⊎◌, inl, inr}
use native.Mathlib.Nat.{eq-or-lt_of_le}
use native.Mathlib.Omega.{arith}
use borrow.Author.Tests.{lt-ltb, ltb-true, ltb-false, eqb-true, eq-eqb, not-false}
use lib.Dec.{eqb, ltb}
use Rattle.basis.proofs.Bools.{and_left, and_right, or_left, or_right}
use Rattle.disk_tracks.specs.Given.{some, tracks_in, track_at, side_at, own_at, before, kind_at, level_at, place_at, detail_at}
use Rattle.disk_tracks.specs.Judgement.{is_outside, some_outside, is_at, some_twice, is_amiss, is_later, amiss_at, some_amiss}
use Rattle.disk_tracks.proofs.Branches.{Accepted}
use Rattle.disk_tracks.proofs.Some.{none-at, some_hit}

pub clash : {P : Type 0} {b : Bool} → b ≡ true → b ≡ false → P
clash {P} {b} e g = let z : ◌≡◌ {A = ℕ} 0 1 = cc in absurd (omega arith)

-- a track is at a place, in numbers
pub at_place : (tracks : List ℕ) (H T i : ℕ) → is_at tracks H T i ≡ true → (side_at tracks i ≡ H) × (track_at tracks i ≡ T)
unfolding is_at
at_place tracks H T i e =
    (eqb-true _ _ (and_left (eqb (side_at tracks i) H) (eqb (track_at tracks i) T) e), eqb-true _ _ (and_right (eqb (side_at tracks i) H) (eqb (track_at tracks i) T) e))

pub place-at : (tracks : List ℕ) (H T i : ℕ) → side_at tracks i ≡ H → track_at tracks i ≡ T → is_at tracks H T i ≡ true
unfolding is_at
place-at tracks H T i s t = rw (eq-eqb _ _ s, eq-eqb _ _ t)

-- a later kind, or the same and a later place
abbrev pub Later : (k p l q : ℕ) → Type 0
Later k p l q = (k < l) ⊎ ((k ≡ l) × (p < q))

later-than : {k p l q m r : ℕ} → Later k p l q → Later l q m r → Later k p m r
later-than (inl a) (inl b) = inl (omega arith)
later-than (inl a) (inr (e, b)) = inl (omega arith)
later-than (inr (e, a)) (inl b) = inl (omega arith)
later-than (inr (e, a)) (inr (g, b)) = inr (omega arith, omega arith)

is-later : (k p l q : ℕ) → is_later k p l q ≡ true → Later k p l q
unfolding is_later
is-later k p l q e = go (ltb k l) refl e
  where
    go : (b : Bool) → ltb k l ≡ b → (b || eqb k l && ltb p q) ≡ true → Later k p l q
    go true t h = inl (ltb-true _ _ t)
    go false t h = inr (eqb-true _ _ (and_left (eqb k l) (ltb p q) h), ltb-true _ _ (and_right (eqb k l) (ltb p q) h))

order-holds : (x b c : Bool) → (x || b && not c) ≡ false → b ≡ true → c ≡ true
order-holds x b c e t = not-false c (rw t at (or_right x (b && not c) e))

order-at : (T : ℕ) (findings : List ℕ) (start k : ℕ) → amiss_at T findings start (suc k) ≡ false
    → Later (kind_at findings (start + suc k - 1)) (place_at findings (start + suc k - 1)) (kind_at findings (start + suc k)) (place_at findings (start + suc k))
unfolding amiss_at
order-at T findings start k e =
    let j = start + suc k in
    is-later _ _ _ _
    (order-holds (is_amiss T (kind_at findings j) (level_at findings j) (place_at findings j) (detail_at findings j)) _ _ e (lt-ltb 0 (suc k) (omega arith)))

-- what TNF has
pub record Tnf (T level place detail : ℕ) : Type 0 where
  pub low : T ≤ 79
  pub level_is : level ≡ 2
  pub place_is : place ≡ 0
  pub detail_is : detail ≡ 0

sound-tnf : (T kind level place detail : ℕ) → is_amiss T kind level place detail ≡ false → kind ≡ 4 → Tnf T level place detail
unfolding is_amiss
sound-tnf T kind level place detail e is =
    let f : (ltb 79 T || not (eqb level 2) || not (eqb place 0) || not (eqb detail 0)) ≡ false = tail (ltb kind 1 || ltb 21 kind) _ _ e (eq-eqb _ _ is) in
    let a = ltb 79 T in
    let b = not (eqb level 2) in
    let c = not (eqb place 0) in
    let d = not (eqb detail 0) in
    let abc = or_left (a || b || c) d f in
    let ab = or_left (a || b) c abc in
    record {
      low = ltb-false _ _ (or_left a b ab);
      level_is = eqb-true _ _ (not-false _ (or_right a b ab));
      place_is = eqb-true _ _ (not-false _ (or_right (a || b) c abc));
      detail_is = eqb-true _ _ (not-false _ (or_right (a || b || c) d f));
    }
  where
    tail : (x y z : Bool) → (x || y && z) ≡ false → y ≡ true → z ≡ false
    tail x y z h t = rw t at (or_right x (y && z) h)

module _ {tracks findings : List ℕ} (ok : Accepted tracks findings) where
  pub inside : (i : ℕ) → i < tracks_in tracks → (track_at tracks i ≤ 83) × (side_at tracks i ≤ 1)
  unfolding some_outside is_outside
  inside i h =
      let e = none-at (λ i. ltb 83 (track_at tracks i) || ltb 1 (side_at tracks i)) (tracks_in tracks) i h ok.inside in
      (ltb-false _ _ (or_left (ltb 83 (track_at tracks i)) (ltb 1 (side_at tracks i)) e), ltb-false _ _ (or_right (ltb 83 (track_at tracks i)) (ltb 1 (side_at tracks i)) e))

  -- no two tracks are at the same place
  pub once : (H T i j : ℕ) → i < j → j < tracks_in tracks → is_at tracks H T i ≡ true → is_at tracks H T j ≡ true → ⊥
  unfolding some_twice
  once H T i j h l a b =
      let at_i = at_place tracks H T i a in
      let at_j = at_place tracks H T j b in
      let none = none-at (λ j. some (is_at tracks (side_at tracks j) (track_at tracks j)) j) (tracks_in tracks) j l ok.once in
      let here = some_hit (is_at tracks (side_at tracks j) (track_at tracks j)) j i h
      (place-at tracks _ _ i (at_i.0 ∙ sym at_j.0) (at_i.1 ∙ sym at_j.1)) in
      clash here none

  module _ (i : ℕ) (h : i < tracks_in tracks) where
    sound-at : (k : ℕ) → k < own_at tracks i → amiss_at (track_at tracks i) findings (before tracks i) k ≡ false
    unfolding some_amiss
    sound-at k l =
        none-at (amiss_at (track_at tracks i) findings (before tracks i)) (own_at tracks i) k l
        (none-at (λ i. some (amiss_at (track_at tracks i) findings (before tracks i)) (own_at tracks i)) (tracks_in tracks) i h ok.sound)

    -- TNF is as the rule says
    pub tnf-at : (k : ℕ) → k < own_at tracks i → kind_at findings (before tracks i + k) ≡ 4
        → Tnf (track_at tracks i) (level_at findings (before tracks i + k)) (place_at findings (before tracks i + k)) (detail_at findings (before tracks i + k))
    unfolding amiss_at
    tnf-at k l e = sound-tnf _ _ _ _ _ (or_left _ _ (sound-at k l)) e

    -- a finding stands after the one before it, and so after each one before it
    next-later : (k : ℕ) → suc k < own_at tracks i
        → Later (kind_at findings (before tracks i + k)) (place_at findings (before tracks i + k)) (kind_at findings (before tracks i + suc k)) (place_at findings (before tracks i + suc k))
    next-later k l =
        let s : before tracks i + suc k - 1 ≡ before tracks i + k = omega arith in
        rw s at (order-at (track_at tracks i) findings (before tracks i) k (sound-at (suc k) l))

    pub all-later : (k l : ℕ) → k < l → l < own_at tracks i
        → Later (kind_at findings (before tracks i + k)) (place_at findings (before tracks i + k)) (kind_at findings (before tracks i + l)) (place_at findings (before tracks i + l))
    all-later k zero a b = absurd (omega arith)
    all-later k (suc l) a b =
        go (eq-or-lt_of_le {n = k} {m = l} (omega arith)) (λ g. all-later k l g (omega arith))
      where
        go : (k ≡ l) ⊎ (k < l)
            → (k < l → Later (kind_at findings (before tracks i + k)) (place_at findings (before tracks i + k)) (kind_at findings (before tracks i + l)) (place_at findings (before tracks i + l)))
            → Later (kind_at findings (before tracks i + k)) (place_at findings (before tracks i + k)) (kind_at findings (before tracks i + suc l)) (place_at findings (before tracks i + suc l))
        go (inl e) more = rw e (next-later l b)
        go (inr g) more = later-than (more g) (next-later l b)
