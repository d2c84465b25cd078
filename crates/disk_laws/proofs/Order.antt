-- The entries of a page are strictly ordered. Assumes nothing.
use Prim.Native.Nat.{ℕ, ◌+◌, ◌<◌}
use mathlib.Core.Path.{◌≡◌, refl}
use mathlib.Core.Bool.{Bool, true, false, cond}
use mathlib.Core.List.Memᴰ
use mathlib.Core.List.{List, [], ◌∷◌}
use mathlib.Core.Logic.{inl, inr}
use lib.Dec.{eqb}
use Rattle.finding_list.proofs.Members.{joined-from, Ordered, ordered-joined, ordered_at}
use Rattle.disk_tracks.specs.Given.{tracks_in, own_at, before, kind_at}
use Rattle.disk_tracks.specs.Judgement.{is_at, judged}
use Rattle.disk_tracks.proofs.Branches.{Accepted, accepted}
use Rattle.refusals.specs.RefusedCalls.Answer.{gives}
use Rattle.disk_page.specs.Ranges.{goes_on, last_of}
use Rattle.disk_page.specs.Page.{Entry, entry, entry_of, finding_entries, track_entries, side_entries, page_entries}
use Rattle.disk_laws.specs.Order.{Earlier, InOrder}
use Rattle.disk_laws.proofs.Accepted.{once, all-later}
use Rattle.disk_laws.proofs.Entries.{brings, at_here, comes-track, page-joined}

one-ordered : (e : Entry) → Ordered Earlier (e ∷ [])
one-ordered e = (λ y m. absurd (Memᴰ.not-nil m), tt)

module _ {tracks findings : List ℕ} (ok : Accepted tracks findings) where
  finding-ordered : (H T j : ℕ) → Ordered Earlier (entry_of tracks findings H T j)
  unfolding entry_of
  finding-ordered H T j = go (eqb (kind_at findings j) 4) (goes_on tracks findings H T)
    where
      go : (a b : Bool) → Ordered Earlier (cond a (cond b [] (entry findings H T (last_of tracks findings H T) j ∷ [])) (entry findings H T T j ∷ []))
      go true true = tt
      go true false = one-ordered (entry findings H T (last_of tracks findings H T) j)
      go false b = one-ordered (entry findings H T T j)

  findings-ordered : (H T i : ℕ) → i < tracks_in tracks → Ordered Earlier (finding_entries tracks findings H T i)
  unfolding finding_entries
  findings-ordered H T i h =
      ordered-joined Earlier (λ k. entry_of tracks findings H T (before tracks i + k)) (own_at tracks i) (λ k l. finding-ordered H T (before tracks i + k))
      (λ k l x y a b m n. rw ((brings tracks findings H T (before tracks i + k) x m).is, (brings tracks findings H T (before tracks i + l) y n).is) (inr (refl, inr (refl, all-later ok i h k l a b))))

  here-ordered : (H T i : ℕ) → i < tracks_in tracks → Ordered Earlier (cond (is_at tracks H T i) (finding_entries tracks findings H T i) [])
  here-ordered H T i h = go (is_at tracks H T i)
    where
      go : (b : Bool) → Ordered Earlier (cond b (finding_entries tracks findings H T i) [])
      go true = findings-ordered H T i h
      go false = tt

  track-ordered : (H T : ℕ) → Ordered Earlier (track_entries tracks findings H T)
  unfolding track_entries
  track-ordered H T =
      ordered-joined Earlier (λ i. cond (is_at tracks H T i) (finding_entries tracks findings H T i) []) (tracks_in tracks) (λ i h. here-ordered H T i h)
      (λ i j x y h l m n. absurd (once ok H T i j h l (at_here tracks findings H T i x m).0 (at_here tracks findings H T j y n).0))

  side-ordered : (H : ℕ) → Ordered Earlier (side_entries tracks findings H)
  unfolding side_entries
  side-ordered H =
      ordered-joined Earlier (track_entries tracks findings H) 84 (λ T h. track-ordered H T)
      (λ T U x y h l m n. rw ((comes-track tracks findings H T x m).from.is, (comes-track tracks findings H U y n).from.is) (inr (refl, inl h)))

  pub page-ordered : Ordered Earlier (page_entries tracks findings)
  unfolding side_entries
  page-ordered =
      rw (page-joined tracks findings)
      (ordered-joined Earlier (side_entries tracks findings) 2 (λ H h. side-ordered H)
      (λ H I x y h l m n. (let f = joined-from (track_entries tracks findings H) 84 x m in
      let g = joined-from (track_entries tracks findings I) 84 y n in
      rw ((comes-track tracks findings H f.place x f.member).from.is, (comes-track tracks findings I g.place y g.member).from.is) (inl h))))

  in_order : InOrder tracks findings
  in_order d i j h l = ordered_at Earlier d (page_entries tracks findings) i j page-ordered h l

-- for every disk that is accepted
pub ordered : {n : ℕ} (tracks findings : List ℕ) → judged tracks findings ≡ gives n → InOrder tracks findings
ordered tracks findings e = in_order (accepted tracks findings e)
