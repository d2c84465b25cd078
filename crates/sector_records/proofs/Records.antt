-- The record of a sector, field by field. Assumes nothing.
use Prim.Native.Nat.{ℕ, ◌+◌}
use mathlib.Core.Path.{◌≡◌, refl, ap}
use mathlib.Core.Bool.{Bool, true, false, cond, ◌&&◌}
use lib.Dec.{leb}
use native.Mathlib.Omega.{arith}
use borrow.Author.Tests.{le-leb, lt-leb}
use Rattle.std.specs.Prelude.{Some, None, ◌≤◌, ◌<◌}
use Rattle.layouts.specs.declared.Layout.{Layout}
use Rattle.sector_records.specs.PrivateContracts.{data_place_of}
use Rattle.sector_records.specs.declared.Sector.{Sector}
use Rattle.sector_records.specs.Sectors.{mark_byte_at, check_good, least_data, data_found, length_of, id_byte, data_length, end_of_data, sector_at, no_sector}

pub record_is : (layout : Layout) (f : ℕ → ℕ) (p mark track side number code : ℕ) (id-good : Bool) (q place data-mark long : ℕ) (good : Bool) (end : ℕ)
    → mark ≡ mark_byte_at layout f p → track ≡ id_byte layout.mark_length f p 0 → side ≡ id_byte layout.mark_length f p 1 → number ≡ id_byte layout.mark_length f p 2 → code ≡ id_byte layout.mark_length f p 3 → id-good ≡ check_good layout f p 4
    → q ≡ least_data layout f p → place ≡ cond (leb q (p + layout.reach)) q 0 → data-mark ≡ cond (leb q (p + layout.reach)) (mark_byte_at layout f q) 0
    → long ≡ cond (leb q (p + layout.reach)) (length_of code) 0 → good ≡ (leb q (p + layout.reach) && check_good layout f q long) → end ≡ cond (leb q (p + layout.reach)) (end_of_data layout.mark_length q long) 0
    → record {
      place = p;
      mark = mark;
      track = track;
      side = side;
      number = number;
      size_code = code;
      id_check_good = id-good;
      data_place = place;
      data_mark = data-mark;
      data_length = long;
      data_check_good = good;
      data_end = end;
      density = layout.density;
    } ≡ sector_at layout f p
unfolding sector_at data_length
record_is layout f p mark track side number code id-good q place data-mark long good end e₁ e₂ e₃ e₄ e₅ e₆ e₇ e₈ e₉ e₁₀ e₁₁ e₁₂ =
    rw (e₁₂, e₁₁, e₁₀, e₉, e₈, e₇, e₆, e₅, e₄, e₃, e₂, e₁)

-- where a search for data ended, within reach or beyond it
module _ (layout : Layout) (f : ℕ → ℕ) (p q : ℕ) (e : q ≡ least_data layout f p) where
  pub place-found : q ≤ p + layout.reach → Some q ≡ data_place_of layout f p
  unfolding data_place_of
  place-found h = let l : least_data layout f p ≤ p + layout.reach = rw e at h in rw (le-leb _ _ l) (ap Some e)

  pub place-beyond : p + layout.reach < q → None ≡ data_place_of layout f p
  unfolding data_place_of
  place-beyond h = let l : p + layout.reach < least_data layout f p = rw e at h in rw (lt-leb _ _ l) refl

-- what such an answer says
data-found : (layout : Layout) (f : ℕ → ℕ) (p q : ℕ) → Some q ≡ data_place_of layout f p → (data_found layout f p ≡ true) × (q ≡ least_data layout f p)
unfolding data_place_of
data-found layout f p q e = go (data_found layout f p) e
  where
    go : (b : Bool) → Some q ≡ cond b (Some (least_data layout f p)) None → (b ≡ true) × (q ≡ least_data layout f p)
    go true g = (refl, cc)
    go false g = let z : ◌≡◌ {A = ℕ} 0 1 = cc in absurd (omega arith)

no-data : (layout : Layout) (f : ℕ → ℕ) (p : ℕ) → None ≡ data_place_of layout f p → data_found layout f p ≡ false
unfolding data_place_of
no-data layout f p e = go (data_found layout f p) e
  where
    go : (b : Bool) → None ≡ cond b (Some (least_data layout f p)) None → b ≡ false
    go true g = let z : ◌≡◌ {A = ℕ} 0 1 = cc in absurd (omega arith)
    go false g = refl

-- the record where no data is found, which has what zeros have in the place of data
pub record-without : (layout : Layout) (f : ℕ → ℕ) (p mark track side number code : ℕ) (id-good : Bool) (zeros : Sector)
    → mark ≡ mark_byte_at layout f p → track ≡ id_byte layout.mark_length f p 0 → side ≡ id_byte layout.mark_length f p 1 → number ≡ id_byte layout.mark_length f p 2 → code ≡ id_byte layout.mark_length f p 3 → id-good ≡ check_good layout f p 4
    → zeros ≡ no_sector → None ≡ data_place_of layout f p
    → record {
      place = p;
      mark = mark;
      track = track;
      side = side;
      number = number;
      size_code = code;
      id_check_good = id-good;
      data_place = zeros.data_place;
      data_mark = zeros.data_mark;
      data_length = zeros.data_length;
      data_check_good = zeros.data_check_good;
      data_end = zeros.data_end;
      density = layout.density;
    } ≡ sector_at layout f p
record-without layout f p mark track side number code id-good zeros e₁ e₂ e₃ e₄ e₅ e₆ z n =
    let no = no-data layout f p n in
    rw z (record_is layout f p mark track side number code id-good (least_data layout f p) 0 0 0 false 0 e₁ e₂ e₃ e₄ e₅ e₆ refl (rw no) (rw no) (rw no) (rw no) (rw no))

-- the record where data is found at q
pub record-with : (layout : Layout) (f : ℕ → ℕ) (p mark track side number code : ℕ) (id-good : Bool) (q data-mark long : ℕ) (good : Bool) (end : ℕ)
    → mark ≡ mark_byte_at layout f p → track ≡ id_byte layout.mark_length f p 0 → side ≡ id_byte layout.mark_length f p 1 → number ≡ id_byte layout.mark_length f p 2 → code ≡ id_byte layout.mark_length f p 3 → id-good ≡ check_good layout f p 4
    → Some q ≡ data_place_of layout f p → data-mark ≡ mark_byte_at layout f q → long ≡ length_of code → good ≡ check_good layout f q long → end ≡ end_of_data layout.mark_length q long
    → record {
      place = p;
      mark = mark;
      track = track;
      side = side;
      number = number;
      size_code = code;
      id_check_good = id-good;
      data_place = q;
      data_mark = data-mark;
      data_length = long;
      data_check_good = good;
      data_end = end;
      density = layout.density;
    } ≡ sector_at layout f p
record-with layout f p mark track side number code id-good q data-mark long good end e₁ e₂ e₃ e₄ e₅ e₆ s e₉ e₁₀ e₁₁ e₁₂ =
    let d = data-found layout f p q s in
    let here : leb q (p + layout.reach) ≡ true = rw d.1 d.0 in
    record_is layout f p mark track side number code id-good q q data-mark long good end e₁ e₂ e₃ e₄ e₅ e₆ d.1 (rw here) (rw here e₉) (rw here e₁₀) (rw here e₁₁) (rw here e₁₂)
