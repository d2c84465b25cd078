-- The findings that are given, and the tests on them in numbers. Assumes nothing.
use Prim.Native.Nat.{ℕ, ◌+◌, ◌<◌, ◌≤◌}
use mathlib.Core.Path.{◌≡◌, refl}
use mathlib.Core.Bool.{true, ◌&&◌}
use mathlib.Core.List.Memᴰ
use mathlib.Core.List.{List, [], ◌∷◌, Memᴰ}
use mathlib.Core.Logic.{◌⊎◌, inl, inr}
use native.Mathlib.Omega.{arith}
use borrow.Author.Tests.{eqb-true, eq-eqb, leb-true, le-leb}
use lib.Dec.{eqb, leb}
use Rattle.basis.specs.Lists.{joined}
use Rattle.basis.proofs.Bools.{and_left, and_right}
use Rattle.finding_list.proofs.Members.{joined-from, joined-has, Ordered, ordered-joined}
use Rattle.disk_tracks.specs.Given.{tracks_in, track_at, side_at, own_at, before, kind_at, place_at}
use Rattle.disk_tracks.proofs.Branches.{Accepted}
use Rattle.disk_page.specs.Page.{Entry}
use Rattle.disk_laws.specs.Once.{Item, item_at, given, is_item, stands_for}
use Rattle.disk_laws.proofs.Accepted.{once, all-later, place-at}

pub record Same (x y : Item) : Type 0 where
  pub side : y.side ≡ x.side
  pub track : y.track ≡ x.track
  pub kind : y.kind ≡ x.kind
  pub level : y.level ≡ x.level
  pub place : y.place ≡ x.place
  pub detail : y.detail ≡ x.detail

pub same : (x y : Item) → is_item x y ≡ true → Same x y
unfolding is_item
same x y e =
    let a = eqb y.side x.side in
    let b = eqb y.track x.track in
    let c = eqb y.kind x.kind in
    let d = eqb y.level x.level in
    let f = eqb y.place x.place in
    let g = eqb y.detail x.detail in
    let e₅ = and_left (a && b && c && d && f) g e in
    let e₄ = and_left (a && b && c && d) f e₅ in
    let e₃ = and_left (a && b && c) d e₄ in
    let e₂ = and_left (a && b) c e₃ in
    record {
      side = eqb-true _ _ (and_left a b e₂);
      track = eqb-true _ _ (and_right a b e₂);
      kind = eqb-true _ _ (and_right (a && b) c e₃);
      level = eqb-true _ _ (and_right (a && b && c) d e₄);
      place = eqb-true _ _ (and_right (a && b && c && d) f e₅);
      detail = eqb-true _ _ (and_right (a && b && c && d && f) g e);
    }

pub is_same : (x y : Item) → Same x y → is_item x y ≡ true
unfolding is_item
is_same x y s =
    rw (eq-eqb _ _ s.side, eq-eqb _ _ s.track, eq-eqb _ _ s.kind, eq-eqb _ _ s.level, eq-eqb _ _ s.place, eq-eqb _ _ s.detail)

pub record Stands (x : Item) (e : Entry) : Type 0 where
  pub side : e.side ≡ x.side
  pub from : e.first ≤ x.track
  pub to : x.track ≤ e.last
  pub kind : e.kind ≡ x.kind
  pub level : e.level ≡ x.level
  pub place : e.place ≡ x.place
  pub detail : e.detail ≡ x.detail

pub stands : (x : Item) (e : Entry) → stands_for x e ≡ true → Stands x e
unfolding stands_for
stands x e t =
    let a = eqb e.side x.side in
    let b = leb e.first x.track in
    let c = leb x.track e.last in
    let d = eqb e.kind x.kind in
    let f = eqb e.level x.level in
    let g = eqb e.place x.place in
    let h = eqb e.detail x.detail in
    let e₆ = and_left (a && b && c && d && f && g) h t in
    let e₅ = and_left (a && b && c && d && f) g e₆ in
    let e₄ = and_left (a && b && c && d) f e₅ in
    let e₃ = and_left (a && b && c) d e₄ in
    let e₂ = and_left (a && b) c e₃ in
    record {
      side = eqb-true _ _ (and_left a b e₂);
      from = leb-true _ _ (and_right a b e₂);
      to = leb-true _ _ (and_right (a && b) c e₃);
      kind = eqb-true _ _ (and_right (a && b && c) d e₄);
      level = eqb-true _ _ (and_right (a && b && c && d) f e₅);
      place = eqb-true _ _ (and_right (a && b && c && d && f) g e₆);
      detail = eqb-true _ _ (and_right (a && b && c && d && f && g) h t);
    }

pub it-stands : (x : Item) (e : Entry) → Stands x e → stands_for x e ≡ true
unfolding stands_for
it-stands x e s =
    rw (eq-eqb _ _ s.side, le-leb _ _ s.from, le-leb _ _ s.to, eq-eqb _ _ s.kind, eq-eqb _ _ s.level, eq-eqb _ _ s.place, eq-eqb _ _ s.detail)

-- two findings that differ in side, track, kind or place
abbrev pub Apart : Item → Item → Type 0
Apart a b = a.side ≡ b.side → a.track ≡ b.track → a.kind ≡ b.kind → a.place ≡ b.place → ⊥

module _ (tracks findings : List ℕ) where
  pub record GivenAt (x : Item) : Type 0 where
    pub i : ℕ
    pub k : ℕ
    pub within : i < tracks_in tracks
    pub own : k < own_at tracks i
    pub is : x ≡ item_at tracks findings i k

  pub given-at : (x : Item) → Memᴰ x (given tracks findings) → GivenAt x
  unfolding given
  given-at x m =
      let f = joined-from (λ i. joined (λ k. item_at tracks findings i k ∷ []) (own_at tracks i)) (tracks_in tracks) x m in
      let g = joined-from (λ k. item_at tracks findings f.place k ∷ []) (own_at tracks f.place) x f.member in
      record { i = f.place; k = g.place; within = f.below; own = g.below; is = Memᴰ.eq_of_singleton g.member }

  pub at-given : (i k : ℕ) → i < tracks_in tracks → k < own_at tracks i → Memᴰ (item_at tracks findings i k) (given tracks findings)
  unfolding given
  at-given i k h l =
      joined-has (λ i. joined (λ k. item_at tracks findings i k ∷ []) (own_at tracks i)) (tracks_in tracks) i _ h
      (joined-has (λ k. item_at tracks findings i k ∷ []) (own_at tracks i) k _ l (Memᴰ.head refl))

one_apart : (x : Item) → Ordered Apart (x ∷ [])
one_apart x = (λ y m. absurd (Memᴰ.not-nil m), tt)

module _ {tracks findings : List ℕ} (ok : Accepted tracks findings) where
  own-apart : (i : ℕ) → i < tracks_in tracks → Ordered Apart (joined (λ k. item_at tracks findings i k ∷ []) (own_at tracks i))
  own-apart i h =
      ordered-joined Apart (λ k. item_at tracks findings i k ∷ []) (own_at tracks i) (λ k l. one_apart (item_at tracks findings i k))
      (λ k l x y a b m n. rw (Memᴰ.eq_of_singleton m, Memᴰ.eq_of_singleton n) (apart k l a b))
    where
      apart : (k l : ℕ) → k < l → l < own_at tracks i → Apart (item_at tracks findings i k) (item_at tracks findings i l)
      apart k l a b s t e p = go (all-later ok i h k l a b)
        where
          go : (kind_at findings (before tracks i + k) < kind_at findings (before tracks i + l))
              ⊎ ((kind_at findings (before tracks i + k) ≡ kind_at findings (before tracks i + l)) × (place_at findings (before tracks i + k) < place_at findings (before tracks i + l))) → ⊥
          go (inl q) = omega arith
          go (inr q) = omega arith

  across-apart : (i j : ℕ) → i < j → j < tracks_in tracks → (k l : ℕ) → Apart (item_at tracks findings i k) (item_at tracks findings j l)
  across-apart i j h l k m s t e p = once ok (side_at tracks j) (track_at tracks j) i j h l (place-at tracks _ _ i s t) (place-at tracks _ _ j refl refl)

  pub given-apart : Ordered Apart (given tracks findings)
  unfolding given
  given-apart =
      ordered-joined Apart (λ i. joined (λ k. item_at tracks findings i k ∷ []) (own_at tracks i)) (tracks_in tracks) (λ i h. own-apart i h)
      (λ i j x y h l m n. (let f = joined-from (λ k. item_at tracks findings i k ∷ []) (own_at tracks i) x m in
      let g = joined-from (λ k. item_at tracks findings j k ∷ []) (own_at tracks j) y n in
      rw (Memᴰ.eq_of_singleton f.member, Memᴰ.eq_of_singleton g.member) (across-apart i j h l f.place g.place)))
