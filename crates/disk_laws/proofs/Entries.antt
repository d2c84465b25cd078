-- Where an entry of the page comes from, and that a finding's entry stands on the page. Assumes nothing.
use Prim.Native.Nat.{ℕ, ◌+◌, ◌<◌, ◌≤◌}
use mathlib.Core.Path.{◌≡◌, refl}
use mathlib.Core.Bool.{Bool, true, false, cond}
use mathlib.Core.List.Memᴰ
use mathlib.Core.List.{List, [], ◌∷◌, Memᴰ}
use mathlib.Core.Logic.{◌⊎◌, inl, inr}
use native.Mathlib.Decide.{ℕ_discrete}
use native.Mathlib.Omega.{arith}
use borrow.Author.Tests.{eq-eqb, ne_eqb}
use lib.Dec.{eqb}
use Rattle.basis.specs.Lists.{joined}
use Rattle.finding_list.proofs.Members.{joined-from, joined-has}
use Rattle.disk_tracks.specs.Given.{tracks_in, own_at, before, kind_at}
use Rattle.disk_tracks.specs.Judgement.{is_at}
use Rattle.disk_page.specs.Ranges.{goes_on, last_of}
use Rattle.disk_page.specs.Page.{Entry, entry, entry_of, finding_entries, track_entries, side_entries, page_entries}

module _ (tracks findings : List ℕ) where
  -- the finding at index j brings the entry, on track T of side H
  pub record Brings (H T j : ℕ) (e : Entry) : Type 0 where
    pub last : ℕ
    pub is : e ≡ entry findings H T last j
    pub how : ((kind_at findings j ≡ 4 → ⊥) × (last ≡ T)) ⊎ ((kind_at findings j ≡ 4) × (goes_on tracks findings H T ≡ false) × (last ≡ last_of tracks findings H T))

  pub brings : (H T j : ℕ) (e : Entry) → Memᴰ e (entry_of tracks findings H T j) → Brings H T j e
  unfolding entry_of
  brings H T j e m = go (ℕ_discrete (kind_at findings j) 4) (goes_on tracks findings H T) refl m
    where
      go : Dec (kind_at findings j ≡ 4) → (g : Bool) → goes_on tracks findings H T ≡ g
          → Memᴰ e (cond (eqb (kind_at findings j) 4) (cond (goes_on tracks findings H T) [] (entry findings H T (last_of tracks findings H T) j ∷ [])) (entry findings H T T j ∷ []))
          → Brings H T j e
      go (no n) g s l =
          let l = rw (ne_eqb _ _ n) at l in
          record { last = T; is = Memᴰ.eq_of_singleton l; how = inl (n, refl) }
      go (yes y) true s l = absurd (Memᴰ.not-nil (rw (eq-eqb _ _ y, s) at l))
      go (yes y) false s l =
          let l = rw (eq-eqb _ _ y, s) at l in
          record { last = last_of tracks findings H T; is = Memᴰ.eq_of_singleton l; how = inr (y, s, refl) }

  -- the entry comes from finding k of the track given at index i, which is track T of side H
  pub record Comes (H T : ℕ) (e : Entry) : Type 0 where
    pub i : ℕ
    pub k : ℕ
    pub within : i < tracks_in tracks
    pub own : k < own_at tracks i
    pub at : is_at tracks H T i ≡ true
    pub from : Brings H T (before tracks i + k) e

  pub at_here : (H T i : ℕ) (e : Entry) → Memᴰ e (cond (is_at tracks H T i) (finding_entries tracks findings H T i) [])
      → (is_at tracks H T i ≡ true) × Memᴰ e (finding_entries tracks findings H T i)
  at_here H T i e m = go (is_at tracks H T i) refl m
    where
      go : (b : Bool) → is_at tracks H T i ≡ b → Memᴰ e (cond b (finding_entries tracks findings H T i) []) → (is_at tracks H T i ≡ true) × Memᴰ e (finding_entries tracks findings H T i)
      go true s l = (s, l)
      go false s l = absurd (Memᴰ.not-nil l)

  pub comes-track : (H T : ℕ) (e : Entry) → Memᴰ e (track_entries tracks findings H T) → Comes H T e
  unfolding track_entries finding_entries
  comes-track H T e m =
      let f = joined-from (λ i. cond (is_at tracks H T i) (finding_entries tracks findings H T i) []) (tracks_in tracks) e m in
      let a = at_here H T f.place e f.member in
      let g = joined-from (λ k. entry_of tracks findings H T (before tracks f.place + k)) (own_at tracks f.place) e a.1 in
      record { i = f.place; k = g.place; within = f.below; own = g.below; at = a.0; from = brings H T (before tracks f.place + g.place) e g.member }

  -- and so do those of a side and of the page
  pub page-joined : page_entries tracks findings ≡ joined (side_entries tracks findings) 2
  unfolding page_entries joined
  page-joined = refl

  pub record OnPage (e : Entry) : Type 0 where
    pub side : ℕ
    pub track : ℕ
    pub comes : Comes side track e

  pub comes-page : (e : Entry) → Memᴰ e (page_entries tracks findings) → OnPage e
  unfolding side_entries
  comes-page e m =
      let f = joined-from (side_entries tracks findings) 2 e (rw page-joined at m) in
      let g = joined-from (track_entries tracks findings f.place) 84 e f.member in
      record { side = f.place; track = g.place; comes = comes-track f.place g.place e g.member }

  -- what a finding of a track brings stands on the page
  pub on-page : (H T i k : ℕ) (e : Entry) → H ≤ 1 → T ≤ 83 → i < tracks_in tracks → k < own_at tracks i → is_at tracks H T i ≡ true
      → Memᴰ e (entry_of tracks findings H T (before tracks i + k)) → Memᴰ e (page_entries tracks findings)
  unfolding side_entries track_entries finding_entries
  on-page H T i k e h t within own at m =
      rw page-joined
      (joined-has (side_entries tracks findings) 2 H e (omega arith)
      (joined-has (track_entries tracks findings H) 84 T e (omega arith)
      (joined-has (λ i. cond (is_at tracks H T i) (finding_entries tracks findings H T i) []) (tracks_in tracks) i e within
      (rw at (joined-has (λ k. entry_of tracks findings H T (before tracks i + k)) (own_at tracks i) k e own m)))))

  pub brings-other : (H T j : ℕ) → (kind_at findings j ≡ 4 → ⊥) → Memᴰ (entry findings H T T j) (entry_of tracks findings H T j)
  unfolding entry_of
  brings-other H T j n = rw (ne_eqb _ _ n) (Memᴰ.head refl)

  pub brings-first : (H T j : ℕ) → kind_at findings j ≡ 4 → goes_on tracks findings H T ≡ false
      → Memᴰ (entry findings H T (last_of tracks findings H T) j) (entry_of tracks findings H T j)
  unfolding entry_of
  brings-first H T j y g = rw (eq-eqb _ _ y, g) (Memᴰ.head refl)
