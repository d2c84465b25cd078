-- Laws over the places of sectors, with the mark's length, the ID's length and the reach as numbers: the least place of a search, the
-- order of sectors, their places, and the end of their data. Assumes nothing.
use Prim.Native.Nat.{ℕ, zero, suc, ◌+◌, ◌-◌, ◌*◌, ◌<◌, ◌≤◌, ◌%◌}
use mathlib.Core.Path.{◌≡◌, refl, sym, ap, ◌∙◌}
use mathlib.Core.Bool.{Bool, true, false, cond}
use mathlib.Core.List.{List, [], ◌∷◌}
use native.Mathlib.Decide.{dec_le}
use native.Mathlib.Nat.{lt_of_not-le}
use native.Mathlib.Omega.{arith}
use borrow.Author.Tests.{leb-true, leb-false}
use lib.ListN.{length, get_or}
use Rattle.basis.specs.Lists.{joined}
use Rattle.basis.specs.Search.{least}
use Rattle.basis.proofs.Joined.{From, joined-grows, index_below, element-of, element-from}
use Rattle.basis.proofs.Search.{least-before, least-found, least-low, least-high}
use Rattle.cells.specs.CellsAndBytes.{cell}
use Rattle.layouts.specs.declared.Layout.{Layout}
use Rattle.layouts.specs.PrivateContracts.{Sound}
use Rattle.sector_records.specs.Marks.{id_mark_at, data_mark_at}
use Rattle.sector_records.specs.declared.Sector.{Sector}
use Rattle.sector_records.specs.Sectors.{least_within, least_data, data_found, length_of, id_byte, data_length, end_of_data, sector_at, no_sector, sectors_at, sectors_of}

-- q is the least place from p + after to p + until that passes the test
pub record LeastWithin (test : ℕ → Bool) (after until p q : ℕ) : Type 0 where
  pub from : p + after ≤ q
  pub to : q ≤ p + until
  pub passes : test q ≡ true
  pub before : (r : ℕ) → p + after ≤ r → r < q → test r ≡ false

module _ (test : ℕ → Bool) (after until p : ℕ) where
  -- as a search from p + after that ends before p + until + 1
  within-is : least test (p + until + 1 - (p + after)) (p + after) ≡ least_within test after until p
  unfolding least_within
  within-is = let e : p + until + 1 - (p + after) ≡ until + 1 - after = omega arith in rw e

  pub within-search : (q : ℕ) → after ≤ until + 1 → q ≡ least test (p + until + 1 - (p + after)) (p + after)
      → (q ≡ least_within test after until p) × (q ≤ p + until + 1)
  within-search q h e =
      let l = least-high test (p + until + 1 - (p + after)) (p + after) in
      (e ∙ within-is, omega arith)

  pub within_low : p + after ≤ least_within test after until p
  unfolding least_within
  within_low = least-low test (until + 1 - after) (p + after)

  -- what is found, and that there is none where nothing is
  pub within-found : least_within test after until p ≤ p + until → LeastWithin test after until p (least_within test after until p)
  unfolding least_within
  within-found h =
      let l = least-low test (until + 1 - after) (p + after) in
      record {
        from = l;
        to = h;
        passes = least-found test (until + 1 - after) (p + after) (omega arith);
        before = λ r a b. least-before test (until + 1 - after) (p + after) r a b;
      }

  pub within-before : (r : ℕ) → p + after ≤ r → r < least_within test after until p → test r ≡ false
  unfolding least_within
  within-before r h l = least-before test (until + 1 - after) (p + after) r h l

  pub within_none : p + until < least_within test after until p → (r : ℕ) → p + after ≤ r → r ≤ p + until → test r ≡ false
  within_none h r a b = within-before r a (omega arith)

  -- there is one such place
  pub within-only : (q : ℕ) → LeastWithin test after until p q → least_within test after until p ≡ q
  within-only q w = go (dec_le (least_within test after until p) q) (dec_le q (least_within test after until p))
    where
      clash : (r : ℕ) → test r ≡ false → test r ≡ true → ⊥
      clash r f t = let z : ◌≡◌ {A = ℕ} 0 1 = cc in omega arith

      go : Dec (least_within test after until p ≤ q) → Dec (q ≤ least_within test after until p) → least_within test after until p ≡ q
      go (yes a) (yes b) = omega arith
      go (yes a) (no b) =
          let f = within-found (omega (arith, w.to)) in
          absurd (clash (least_within test after until p) (w.before (least_within test after until p) within_low (lt_of_not-le b)) f.passes)
      go (no a) b = absurd (clash q (within-before q w.from (lt_of_not-le a)) w.passes)

-- where a sector has a data mark, it is the least within reach; where it has none, there is none
pub data-least : (layout : Layout) (f : ℕ → ℕ) (p : ℕ) → data_found layout f p ≡ true → LeastWithin (data_mark_at layout f) layout.id_length layout.reach p (sector_at layout f p).data_place
unfolding sector_at
data-least layout f p e = rw e (within-found (data_mark_at layout f) layout.id_length layout.reach p (leb-true (least_data layout f p) (p + layout.reach) e))

pub data-none : (layout : Layout) (f : ℕ → ℕ) (p : ℕ) → data_found layout f p ≡ false → (r : ℕ) → p + layout.id_length ≤ r → r ≤ p + layout.reach → data_mark_at layout f r ≡ false
data-none layout f p e r h l = within_none (data_mark_at layout f) layout.id_length layout.reach p (leb-false (least_data layout f p) (p + layout.reach) e) r h l

-- data that starts within the reach of a place on the track ends before the track's second turn does, where the reach, the mark and the
-- most bytes together fit the track
pub end-in-two-turns : (mark reach most n p q l : ℕ) → reach + mark + 16 * most + 32 ≤ n → p < n → q ≤ p + reach → l ≤ most
    → q + mark + 16 * l + 32 < 2 * n
end-in-two-turns mark reach most n p q l room h g k = omega arith

pub length_most : (code : ℕ) → length_of code ≤ 1024
unfolding length_of
length_most code = go (code % 4) (omega arith)
  where
    go : (r : ℕ) → r < 4 → get_or (128 ∷ 256 ∷ 512 ∷ 1024 ∷ []) r 0 ≤ 1024
    go zero h = omega arith
    go (suc zero) h = omega arith
    go (suc (suc zero)) h = omega arith
    go (suc (suc (suc zero))) h = omega arith
    go (suc (suc (suc (suc r)))) h = absurd (omega arith)

-- so reading a sector goes round the track at most once
pub data-end-below : (layout : Layout) → Sound layout → (f : ℕ → ℕ) (n p : ℕ) → 20000 ≤ n → p < n → (sector_at layout f p).data_end < 2 * n
unfolding sector_at data_length
data-end-below layout sound f n p h l = go (data_found layout f p) refl
  where
    go : (b : Bool) → data_found layout f p ≡ b → cond b (end_of_data layout.mark_length (least_data layout f p) (cond b (length_of (id_byte layout.mark_length f p 3)) 0)) 0 < 2 * n
    go true e = end-in-two-turns layout.mark_length layout.reach 1024 n p (least_data layout f p) (length_of (id_byte layout.mark_length f p 3)) (omega (arith, sound.mark, sound.near)) l (leb-true (least_data layout f p) (p + layout.reach) e) (length_most (id_byte layout.mark_length f p 3))
    go false e = omega arith

-- the sectors at a place, as the laws of joined lists take them
pub sectors-one : (layout : Layout) (f : ℕ → ℕ) (p : ℕ) → sectors_at layout f p ≡ cond (id_mark_at layout f p) (sector_at layout f p ∷ []) []
unfolding sectors_at
sectors-one layout f p = refl

pub place_is : (layout : Layout) (f : ℕ → ℕ) (p : ℕ) → (sector_at layout f p).place ≡ p
unfolding sector_at
place_is layout f p = refl

-- s is sector i of the sectors before place n: the record of an ID mark, before which i sectors stand
pub record SectorOf (layout : Layout) (f : ℕ → ℕ) (n i : ℕ) (s : Sector) : Type 0 where
  pub below : s.place < n
  pub marked : id_mark_at layout f s.place ≡ true
  pub made : s ≡ sector_at layout f s.place
  pub index : length (joined (sectors_at layout f) s.place) ≡ i

module _ (layout : Layout) (f : ℕ → ℕ) (n : ℕ) where
  -- each sector is the record of an ID mark
  pub of-mark : (i : ℕ) → i < length (joined (sectors_at layout f) n) → SectorOf layout f n i (get_or (joined (sectors_at layout f) n) i no_sector)
  of-mark i h = go (element-from (sectors_at layout f) (id_mark_at layout f) (sector_at layout f) (sectors-one layout f) no_sector n i h)
    where
      go : From (sectors_at layout f) (id_mark_at layout f) (sector_at layout f) n i (get_or (joined (sectors_at layout f) n) i no_sector) → SectorOf layout f n i (get_or (joined (sectors_at layout f) n) i no_sector)
      go from =
          let e : (get_or (joined (sectors_at layout f) n) i no_sector).place ≡ from.place = ap (λ (s : Sector). s.place) from.element ∙ place_is layout f from.place in
          record {
            below = rw e from.below;
            marked = rw e from.passes;
            made = rw e from.element;
            index = rw e (sym from.index);
          }

  -- each ID mark has its record
  pub mark-index : (p : ℕ) → p < n → id_mark_at layout f p ≡ true → length (joined (sectors_at layout f) p) < length (joined (sectors_at layout f) n)
  mark-index p h e = index_below (sectors_at layout f) (id_mark_at layout f) (sector_at layout f) (sectors-one layout f) n p h e

  pub mark-record : (p : ℕ) → p < n → id_mark_at layout f p ≡ true → get_or (joined (sectors_at layout f) n) (length (joined (sectors_at layout f) p)) no_sector ≡ sector_at layout f p
  mark-record p h e = element-of (sectors_at layout f) (id_mark_at layout f) (sector_at layout f) (sectors-one layout f) no_sector n p h e

  -- sectors are ordered by place
  pub places-rise : (i j : ℕ) → i < j → j < length (joined (sectors_at layout f) n) → (get_or (joined (sectors_at layout f) n) i no_sector).place < (get_or (joined (sectors_at layout f) n) j no_sector).place
  places-rise i j h l = go (of-mark i (omega arith)) (of-mark j l)
    where
      rise : (s t : Sector) → SectorOf layout f n i s → SectorOf layout f n j t → Dec (t.place ≤ s.place) → s.place < t.place
      rise s t a b (no d) = lt_of_not-le d
      rise s t a b (yes d) =
          let e : t.place + (s.place - t.place) ≡ s.place = omega arith in
          absurd (omega (arith, rw e at (joined-grows (sectors_at layout f) t.place (s.place - t.place)), a.index, b.index))

      go : SectorOf layout f n i (get_or (joined (sectors_at layout f) n) i no_sector) → SectorOf layout f n j (get_or (joined (sectors_at layout f) n) j no_sector)
          → (get_or (joined (sectors_at layout f) n) i no_sector).place < (get_or (joined (sectors_at layout f) n) j no_sector).place
      go a b = rise (get_or (joined (sectors_at layout f) n) i no_sector) (get_or (joined (sectors_at layout f) n) j no_sector) a b (dec_le (get_or (joined (sectors_at layout f) n) j no_sector).place (get_or (joined (sectors_at layout f) n) i no_sector).place)

-- the same of the sectors of a track
module _ (layout : Layout) (bytes : List ℕ) (n : ℕ) where
  pub sector-of-mark : (i : ℕ) → i < length (sectors_of layout bytes n) → SectorOf layout (cell bytes n) n i (get_or (sectors_of layout bytes n) i no_sector)
  unfolding sectors_of
  sector-of-mark i h = of-mark layout (cell bytes n) n i h

  pub mark-of-sector : (p : ℕ) → p < n → id_mark_at layout (cell bytes n) p ≡ true
      → (length (joined (sectors_at layout (cell bytes n)) p) < length (sectors_of layout bytes n))
      × (get_or (sectors_of layout bytes n) (length (joined (sectors_at layout (cell bytes n)) p)) no_sector ≡ sector_at layout (cell bytes n) p)
  unfolding sectors_of
  mark-of-sector p h e = (mark-index layout (cell bytes n) n p h e, mark-record layout (cell bytes n) n p h e)

  pub sectors-ordered : (i j : ℕ) → i < j → j < length (sectors_of layout bytes n) → (get_or (sectors_of layout bytes n) i no_sector).place < (get_or (sectors_of layout bytes n) j no_sector).place
  unfolding sectors_of
  sectors-ordered i j h l = places-rise layout (cell bytes n) n i j h l

  pub sectors-end-below : Sound layout → (i : ℕ) → 20000 ≤ n → i < length (sectors_of layout bytes n)
      → (get_or (sectors_of layout bytes n) i no_sector).data_end < 2 * n
  sectors-end-below sound i h l = go (get_or (sectors_of layout bytes n) i no_sector) (sector-of-mark i l)
    where
      go : (s : Sector) → SectorOf layout (cell bytes n) n i s → s.data_end < 2 * n
      go s m = rw m.made (data-end-below layout sound (cell bytes n) n s.place h m.below)
