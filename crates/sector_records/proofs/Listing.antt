-- The list of sectors, from ID mark to ID mark: the places between hold no sector. Assumes nothing.
use Prim.Native.Nat.{ℕ, ◌+◌, ◌-◌, ◌<◌, ◌≤◌}
use mathlib.Core.Path.{◌≡◌, sym, ap, ◌∙◌}
use mathlib.Core.Bool.{true}
use mathlib.Core.List.{◌∷◌, [], ◌++◌}
use native.Mathlib.Omega.{arith}
use lib.ListN.{length}
use Rattle.basis.specs.Lists.{joined}
use Rattle.basis.specs.Search.{least}
use Rattle.basis.proofs.Joined.{joined_to, none_here, joined-here, joined-few}
use Rattle.basis.proofs.Search.{least-before, least-found, least-low, least-high}
use Rattle.layouts.specs.declared.Layout.{Layout}
use Rattle.sector_records.specs.Marks.{id_mark_at}
use Rattle.sector_records.specs.Sectors.{sector_at, sectors_at, kept}
use Rattle.sector_records.specs.declared.Sectors.{Sectors}
use Rattle.sector_records.proofs.Places.{sectors-one}

module _ (layout : Layout) (f : ℕ → ℕ) where
  pub sectors-few : (p : ℕ) → length (joined (sectors_at layout f) p) ≤ p
  sectors-few = joined-few (sectors_at layout f) (id_mark_at layout f) (sector_at layout f) (sectors-one layout f)

  pub sectors-here : (p : ℕ) → id_mark_at layout f p ≡ true → joined (sectors_at layout f) (p + 1) ≡ joined (sectors_at layout f) p ++ (sector_at layout f p ∷ [])
  sectors-here = joined-here (sectors_at layout f) (id_mark_at layout f) (sector_at layout f) (sectors-one layout f)

  -- the sectors before p, where an ID mark stands, or the track ends
  pub record Before (n : ℕ) (sectors : Sectors) (p : ℕ) : Type 0 where
    pub inside : p ≤ n
    pub on : p < n → id_mark_at layout f p ≡ true
    pub are : sectors ≡ kept (joined (sectors_at layout f) p)

  -- from the next ID mark on
  pub before-next : (n : ℕ) (sectors : Sectors) (p r : ℕ) → p ≤ n → r ≡ least (id_mark_at layout f) (n - p) p → sectors ≡ kept (joined (sectors_at layout f) p) → Before n sectors r
  before-next n sectors p r h e s =
      let low : p ≤ r = rw e (least-low (id_mark_at layout f) (n - p) p) in
      record {
        inside = omega (arith, least-high (id_mark_at layout f) (n - p) p);
        on = λ l. rw e (least-found (id_mark_at layout f) (n - p) p (omega arith));
        are = s ∙ ap kept (sym (joined_to (sectors_at layout f) p r low (λ q a b. none_here (sectors_at layout f) (id_mark_at layout f) (sector_at layout f) (sectors-one layout f) q (least-before (id_mark_at layout f) (n - p) p q a (rw e at b)))));
      }
