-- The page has each finding that is given just once. Assumes nothing.
use Prim.Native.Nat.{ℕ, zero, suc, ◌+◌, ◌<◌, ◌≤◌}
use mathlib.Core.Path.{◌≡◌, refl, sym, ap, ◌∙◌}
use mathlib.Core.Bool.{true, false}
use mathlib.Core.List.{List}
use mathlib.Core.Logic.{◌⊎◌, inl, inr}
use native.Mathlib.Decide.{ℕ_discrete}
use native.Mathlib.Omega.{arith}
use Rattle.disk_tracks.specs.Given.{tracks_in, track_at, side_at, own_at, before, kind_at}
use Rattle.disk_tracks.specs.Judgement.{judged}
use Rattle.disk_tracks.proofs.Branches.{Accepted, accepted}
use Rattle.disk_page.specs.Ranges.{has_tnf, goes_on, last_of}
use Rattle.disk_page.specs.Page.{Entry, entry, page_entries}
use Rattle.refusals.specs.RefusedCalls.Answer.{gives}
use Rattle.disk_laws.specs.Order.{Earlier}
use Rattle.disk_laws.specs.Once.{Item, item_at, given, is_item, stands_for, times, EachOnce}
use Rattle.disk_laws.proofs.Accepted.{clash, at_place, place-at, inside, tnf-at}
use Rattle.disk_laws.proofs.Tnf.{tnf-given, given-tnf}
use Rattle.disk_laws.proofs.Entries.{Comes, comes-page, on-page, brings-other, brings-first}
use Rattle.disk_laws.proofs.Order.{page-ordered}
use Rattle.disk_laws.proofs.Runs.{in-range, run-start, reaches}
use Rattle.disk_laws.proofs.Times.{times-has, times-from, times-few, equal-times}
use Rattle.disk_laws.proofs.Items.{Same, same, is_same, Stands, stands, it-stands, Apart, given-at, at-given, given-apart}

module _ {tracks findings : List ℕ} (ok : Accepted tracks findings) where
  -- no finding is given twice
  few-given : (x : Item) → times (is_item x) (given tracks findings) ≤ 1
  few-given x =
      times-few (is_item x) Apart (given tracks findings) (given-apart ok)
      (λ a b m n r e g. (let s = same x a e in
      let t = same x b g in
      r (s.side ∙ sym t.side) (s.track ∙ sym t.track) (s.kind ∙ sym t.kind) (s.place ∙ sym t.place)))

  -- the track that an entry of TNF comes from has TNF
  comes-tnf : (H T : ℕ) (e : Entry) (c : Comes tracks findings H T e) → kind_at findings (before tracks c.i + c.k) ≡ 4 → has_tnf tracks findings H T ≡ true
  comes-tnf H T e c y =
      let at = at_place tracks H T c.i c.at in
      given-tnf tracks findings H T (record { i = c.i; k = c.k; within = c.within; own = c.own; side = at.0; track = at.1; kind = y })

  -- where a range begins no earlier one reaches
  apart-ranges : (H T U last : ℕ) → has_tnf tracks findings H T ≡ true → T < U → U ≤ last_of tracks findings H T → goes_on tracks findings H U ≡ false → ⊥
  unfolding goes_on
  apart-ranges H T zero last e h l g = omega arith
  apart-ranges H T (suc U) last e h l g = clash (in-range tracks findings H T U e (omega arith) (omega arith)) g

  -- of two entries not both stand for a finding
  module _ (x : Item) (H T I U : ℕ) (a b : Entry) (c : Comes tracks findings H T a) (d : Comes tracks findings I U b) (s : Stands x a) (t : Stands x b) where
    later_first : a.first < b.first → ⊥
    later_first h = go c.from.how d.from.how
      where
        go : ((kind_at findings (before tracks c.i + c.k) ≡ 4 → ⊥) × (c.from.last ≡ T))
            ⊎ ((kind_at findings (before tracks c.i + c.k) ≡ 4) × (goes_on tracks findings H T ≡ false) × (c.from.last ≡ last_of tracks findings H T))
            → ((kind_at findings (before tracks d.i + d.k) ≡ 4 → ⊥) × (d.from.last ≡ U))
            ⊎ ((kind_at findings (before tracks d.i + d.k) ≡ 4) × (goes_on tracks findings I U ≡ false) × (d.from.last ≡ last_of tracks findings I U)) → ⊥
        go (inl p) q = omega (arith, p.1, ap (λ (e : Entry). e.first) c.from.is, ap (λ (e : Entry). e.last) c.from.is, s.to, t.from)
        go (inr p) (inl q) =
            q.0 (sym (ap (λ (e : Entry). e.kind) d.from.is) ∙ t.kind ∙ sym s.kind ∙ ap (λ (e : Entry). e.kind) c.from.is ∙ p.0)
        go (inr p) (inr q) =
            let sides : I ≡ H = sym (ap (λ (e : Entry). e.side) d.from.is) ∙ t.side ∙ sym s.side ∙ ap (λ (e : Entry). e.side) c.from.is in
            apart-ranges H T U 0 (comes-tnf H T a c p.0)
            (omega (arith, ap (λ (e : Entry). e.first) c.from.is, ap (λ (e : Entry). e.first) d.from.is))
            (omega (arith, p.2, ap (λ (e : Entry). e.last) c.from.is, s.to, t.from, ap (λ (e : Entry). e.first) d.from.is))
            (rw sides at q.1)

    never_both : Earlier a b → ⊥
    never_both (inl h) = omega (arith, s.side, t.side)
    never_both (inr (e, inl h)) = later_first h
    never_both (inr (e, inr (f, inl h))) = omega (arith, s.kind, t.kind)
    never_both (inr (e, inr (f, inr (g, h)))) = omega (arith, s.place, t.place)

  few-entries : (x : Item) → times (stands_for x) (page_entries tracks findings) ≤ 1
  few-entries x =
      times-few (stands_for x) Earlier (page_entries tracks findings) (page-ordered ok)
      (λ a b m n r e g. (let p = comes-page tracks findings a m in
      let q = comes-page tracks findings b n in
      never_both x p.side p.track q.side q.track a b p.comes q.comes (stands x a e) (stands x b g) r))

  -- an entry stands for findings that are given
  given-one : (x : Item) (H T : ℕ) (e : Entry) → Comes tracks findings H T e → Stands x e → 1 ≤ times (is_item x) (given tracks findings)
  given-one x H T e c s = go c.from.how
    where
      is : e ≡ entry findings H T c.from.last (before tracks c.i + c.k)
      is = c.from.is

      at : (side_at tracks c.i ≡ H) × (track_at tracks c.i ≡ T)
      at = at_place tracks H T c.i c.at

      go : ((kind_at findings (before tracks c.i + c.k) ≡ 4 → ⊥) × (c.from.last ≡ T))
          ⊎ ((kind_at findings (before tracks c.i + c.k) ≡ 4) × (goes_on tracks findings H T ≡ false) × (c.from.last ≡ last_of tracks findings H T))
          → 1 ≤ times (is_item x) (given tracks findings)
      go (inl p) =
          times-has (is_item x) (given tracks findings) (item_at tracks findings c.i c.k) (at-given tracks findings c.i c.k c.within c.own)
          (is_same x _
          (record {
            side = at.0 ∙ sym (ap (λ (e : Entry). e.side) is) ∙ s.side;
            track = omega (arith, at.1, p.1, ap (λ (e : Entry). e.first) is, ap (λ (e : Entry). e.last) is, s.from, s.to);
            kind = sym (ap (λ (e : Entry). e.kind) is) ∙ s.kind;
            level = sym (ap (λ (e : Entry). e.level) is) ∙ s.level;
            place = sym (ap (λ (e : Entry). e.place) is) ∙ s.place;
            detail = sym (ap (λ (e : Entry). e.detail) is) ∙ s.detail;
          }))
      go (inr p) =
          let own = tnf-at ok c.i c.within c.k c.own p.0 in
          let low : T ≤ x.track = omega (arith, ap (λ (e : Entry). e.first) is, s.from) in
          let high : x.track ≤ last_of tracks findings H T = omega (arith, ap (λ (e : Entry). e.last) is, p.2, s.to) in
          let g = tnf-given tracks findings H x.track (in-range tracks findings H T x.track (comes-tnf H T e c p.0) low high) in
          let other = tnf-at ok g.i g.within g.k g.own g.kind in
          times-has (is_item x) (given tracks findings) (item_at tracks findings g.i g.k) (at-given tracks findings g.i g.k g.within g.own)
          (is_same x _
          (record {
            side = g.side ∙ sym (ap (λ (e : Entry). e.side) is) ∙ s.side;
            track = g.track;
            kind = g.kind ∙ sym p.0 ∙ sym (ap (λ (e : Entry). e.kind) is) ∙ s.kind;
            level = other.level_is ∙ sym own.level_is ∙ sym (ap (λ (e : Entry). e.level) is) ∙ s.level;
            place = other.place_is ∙ sym own.place_is ∙ sym (ap (λ (e : Entry). e.place) is) ∙ s.place;
            detail = other.detail_is ∙ sym own.detail_is ∙ sym (ap (λ (e : Entry). e.detail) is) ∙ s.detail;
          }))

  -- a finding that is given has an entry that stands for it
  module _ (x : Item) (i k : ℕ) (h : i < tracks_in tracks) (l : k < own_at tracks i) (s : Same x (item_at tracks findings i k)) where
    bounds : (track_at tracks i ≤ 83) × (side_at tracks i ≤ 1)
    bounds = inside ok i h

    entry_other : (kind_at findings (before tracks i + k) ≡ 4 → ⊥) → 1 ≤ times (stands_for x) (page_entries tracks findings)
    entry_other n =
        let H = side_at tracks i in
        let T = track_at tracks i in
        times-has (stands_for x) (page_entries tracks findings) (entry findings H T T (before tracks i + k))
        (on-page tracks findings H T i k _ bounds.1 bounds.0 h l (place-at tracks H T i refl refl) (brings-other tracks findings H T (before tracks i + k) n))
        (it-stands x _
        (record { side = s.side; from = omega (arith, s.track); to = omega (arith, s.track); kind = s.kind; level = s.level; place = s.place; detail = s.detail }))

    entry-tnf : kind_at findings (before tracks i + k) ≡ 4 → 1 ≤ times (stands_for x) (page_entries tracks findings)
    entry-tnf y =
        let H = side_at tracks i in
        let T = track_at tracks i in
        let own = tnf-at ok i h k l y in
        let r = run-start tracks findings H T (given-tnf tracks findings H T (record { i = i; k = k; within = h; own = l; side = refl; track = refl; kind = y })) in
        let low = r.low in
        let far = reaches tracks findings H T r bounds.0 in
        let g = tnf-given tracks findings H r.first (r.all r.first (omega arith) low) in
        let other = tnf-at ok g.i g.within g.k g.own g.kind in
        let j = before tracks g.i + g.k in
        times-has (stands_for x) (page_entries tracks findings) (entry findings H r.first (last_of tracks findings H r.first) j)
        (on-page tracks findings H r.first g.i g.k _ bounds.1 (omega (arith, bounds.0)) g.within g.own
        (place-at tracks H r.first g.i g.side g.track) (brings-first tracks findings H r.first j g.kind r.begins))
        (it-stands x _
        (record {
          side = s.side;
          from = omega (arith, s.track);
          to = omega (arith, s.track);
          kind = g.kind ∙ sym y ∙ s.kind;
          level = other.level_is ∙ sym own.level_is ∙ s.level;
          place = other.place_is ∙ sym own.place_is ∙ s.place;
          detail = other.detail_is ∙ sym own.detail_is ∙ s.detail;
        }))

    entry-one : 1 ≤ times (stands_for x) (page_entries tracks findings)
    entry-one = go (ℕ_discrete (kind_at findings (before tracks i + k)) 4)
      where
        go : Dec (kind_at findings (before tracks i + k) ≡ 4) → 1 ≤ times (stands_for x) (page_entries tracks findings)
        go (yes y) = entry-tnf y
        go (no n) = entry_other n

  once-each : EachOnce tracks findings
  once-each x = (equal-times _ _ (few-entries x) (few-given x) on-given on-entry, few-given x)
    where
      on-given : 1 ≤ times (stands_for x) (page_entries tracks findings) → 1 ≤ times (is_item x) (given tracks findings)
      on-given h =
          let p = times-from (stands_for x) (page_entries tracks findings) h in
          let o = comes-page tracks findings p.element p.member in
          given-one x o.side o.track p.element o.comes (stands x p.element p.passes)

      on-entry : 1 ≤ times (is_item x) (given tracks findings) → 1 ≤ times (stands_for x) (page_entries tracks findings)
      on-entry h =
          let p = times-from (is_item x) (given tracks findings) h in
          let g = given-at tracks findings p.element p.member in
          entry-one x g.i g.k g.within g.own (rw g.is at (same x p.element p.passes))

-- for every disk that is accepted
pub each-once : {n : ℕ} (tracks findings : List ℕ) → judged tracks findings ≡ gives n → EachOnce tracks findings
each-once tracks findings e = once-each (accepted tracks findings e)
