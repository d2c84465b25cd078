-- The bytes of marks: in single density that of an ID mark is FE, and that of a data mark FB or F8. A data mark's byte is never 0, so a record
-- tells by it whether there is data. Assumes nothing.
use Prim.Native.Nat.{ℕ, ◌+◌, ◌*◌, ◌<◌, ◌≤◌}
use mathlib.Core.Path.{◌≡◌, refl, sym, ap, ◌∙◌}
use mathlib.Core.Bool.{Bool, true, false, not, cond, ◌&&◌, ◌||◌}
use mathlib.Core.List.{List}
use mathlib.Core.Logic.{◌⊎◌, inl, inr, ⊎_elim}
use native.Mathlib.Omega.{arith}
use borrow.Author.Tests.{eqb-true, ne_eqb, leb-true}
use lib.Dec.{eqb, leb}
use lib.ListN.{length, get_or}
use Rattle.basis.proofs.Bools.{and_left, and_right}
use Rattle.cells.specs.CellsAndBytes.{cell, word}
use Rattle.cells.proofs.Places.{cell-lt}
use Rattle.mfm.specs.Coding.{byte_on}
use Rattle.mfm.proofs.Decoder.{by_word}
use Rattle.layouts.specs.Layouts.{double_density, single_density, layout_of}
use Rattle.layouts.specs.declared.Density.{Density}
use Rattle.layouts.specs.declared.Density.TheVariants.{Single, Double}
use Rattle.layouts.specs.declared.Layout.{Layout}
use Rattle.sector_records.specs.Marks.{mark_at, mark_byte, mark_of, word_mark_at, id_mark_at, data_mark_at}
use Rattle.sector_records.specs.Sectors.{mark_byte_at, least_data, data_found, data_length, has_data, sector_at, no_sector, sectors_of}
use Rattle.sector_records.specs.declared.Sector.{Sector}
use Rattle.sector_records.proofs.Places.{within-found, sector-of-mark, data-least}

module _ (f : ℕ → ℕ) (bits : (i : ℕ) → f i < 2) (p : ℕ) where
  at_its_place : mark_byte_at single_density f p ≡ byte_on f p
  unfolding single_density
  at_its_place = let e : p + 0 ≡ p = omega arith in ap (byte_on f) e

  of_word : (w : ℕ) → word_mark_at f w p ≡ true → w ≡ word f 16 p
  unfolding word_mark_at
  of_word w e = sym (eqb-true (word f 16 p) w e)

  pub single-id : id_mark_at single_density f p ≡ true → mark_byte_at single_density f p ≡ 0xFE
  unfolding id_mark_at single_density
  single-id e = at_its_place ∙ sym (by_word f bits p 0xF57E (of_word 0xF57E e))

  pub single-data : data_mark_at single_density f p ≡ true → (mark_byte_at single_density f p ≡ 0xFB) ⊎ (mark_byte_at single_density f p ≡ 0xF8)
  unfolding data_mark_at single_density
  single-data e = go (word_mark_at f 0xF56F p) refl e
    where
      go : (x : Bool) → word_mark_at f 0xF56F p ≡ x → x || word_mark_at f 0xF56A p ≡ true → (byte_on f (p + 0) ≡ 0xFB) ⊎ (byte_on f (p + 0) ≡ 0xF8)
      go true y z = inl (at_its_place ∙ sym (by_word f bits p 0xF56F (of_word 0xF56F y)))
      go false y z = inr (at_its_place ∙ sym (by_word f bits p 0xF56A (of_word 0xF56A z)))

-- the byte of a mark of double density that is looked for from `low` on
mark-from : (f : ℕ → ℕ) (low high q : ℕ) → mark_of f low high q ≡ true → low ≤ mark_byte f q
unfolding mark_of
mark-from f low high q e =
    leb-true low (mark_byte f q)
    (and_left (leb low (mark_byte f q)) (leb (mark_byte f q) high) (and_right (mark_at f q) (leb low (mark_byte f q) && leb (mark_byte f q) high) e))

double-data : (f : ℕ → ℕ) (p : ℕ) → data_mark_at double_density f p ≡ true → 0xF8 ≤ mark_byte_at double_density f p
unfolding data_mark_at double_density
double-data f p e = mark-from f 0xF8 0xFB p e

data-byte : (density : Density) (f : ℕ → ℕ) → ((i : ℕ) → f i < 2) → (p : ℕ) → data_mark_at (layout_of density) f p ≡ true → 0xF8 ≤ mark_byte_at (layout_of density) f p
data-byte Single f bits p e = ⊎_elim (λ z. omega (arith, z)) (λ z. omega (arith, z)) (single-data f bits p e)
data-byte Double f bits p e = double-data f p e

module _ (density : Density) (f : ℕ → ℕ) (bits : (i : ℕ) → f i < 2) (p : ℕ) where
  abbrev layout : Layout
  layout = layout_of density

  -- 6.12: a record tells of data exactly where a data mark is found
  pub has-data : has_data (sector_at (layout_of density) f p) ≡ data_found (layout_of density) f p
  unfolding sector_at
  has-data = go (data_found layout f p) refl
    where
      go : (b : Bool) → data_found layout f p ≡ b → not (eqb (cond b (mark_byte_at layout f (least_data layout f p)) 0) 0) ≡ b
      go true e =
          let l = within-found (data_mark_at layout f) layout.id_length layout.reach p (leb-true (least_data layout f p) (p + layout.reach) e) in
          rw (ne_eqb (mark_byte_at layout f (least_data layout f p)) 0 (λ z. omega (arith, data-byte density f bits (least_data layout f p) l.passes)))
      go false e = refl

  -- 6.14, 6.16, 6.24: the data end of a record: 0 where there is no data, and else after the mark, the L bytes and their check bytes
  pub end-without-data : has_data (sector_at (layout_of density) f p) ≡ false → (sector_at (layout_of density) f p).data_end ≡ 0
  unfolding sector_at
  end-without-data h = let e : data_found layout f p ≡ false = sym has-data ∙ h in rw e

  pub end-with-data : has_data (sector_at (layout_of density) f p) ≡ true
      → (sector_at (layout_of density) f p).data_end ≡ (sector_at (layout_of density) f p).data_place + (layout_of density).mark_length + 16 * (sector_at (layout_of density) f p).data_length + 32
  unfolding sector_at data_length
  end-with-data h = let e : data_found layout f p ≡ true = sym has-data ∙ h in rw e

-- the marks of a track's sectors in single density
module _ (bytes : List ℕ) (n i : ℕ) (h : i < length (sectors_of single_density bytes n)) where
  abbrev cells : ℕ → ℕ
  cells = cell bytes n

  mark-of : (p : ℕ) → id_mark_at single_density cells p ≡ true → (sector_at single_density cells p).mark ≡ 0xFE
  unfolding sector_at
  mark-of p e = single-id cells (cell-lt bytes n) p e

  -- 7.47
  pub single-mark : (get_or (sectors_of single_density bytes n) i no_sector).mark ≡ 0xFE
  single-mark = let m = sector-of-mark single_density bytes n i h in ap (λ (x : Sector). x.mark) m.made ∙ mark-of (get_or (sectors_of single_density bytes n) i no_sector).place m.marked

  -- 0 where there is none
  data-mark-of : (p : ℕ)
      → ((sector_at single_density cells p).data_mark ≡ 0) ⊎ (((sector_at single_density cells p).data_mark ≡ 0xFB) ⊎ ((sector_at single_density cells p).data_mark ≡ 0xF8))
  unfolding sector_at
  data-mark-of p = go (data_found single_density cells p) refl
    where
      go : (x : Bool) → data_found single_density cells p ≡ x
          → (cond x (mark_byte_at single_density cells (least_data single_density cells p)) 0 ≡ 0)
          ⊎ ((cond x (mark_byte_at single_density cells (least_data single_density cells p)) 0 ≡ 0xFB) ⊎ (cond x (mark_byte_at single_density cells (least_data single_density cells p)) 0 ≡ 0xF8))
      go true e =
          let l = data-least single_density cells p e in
          inr (single-data cells (cell-lt bytes n) (least_data single_density cells p) (rw e at l.passes))
      go false e = inl refl

  pub single-data-mark : ((get_or (sectors_of single_density bytes n) i no_sector).data_mark ≡ 0)
      ⊎ (((get_or (sectors_of single_density bytes n) i no_sector).data_mark ≡ 0xFB) ⊎ ((get_or (sectors_of single_density bytes n) i no_sector).data_mark ≡ 0xF8))
  single-data-mark = let m = sector-of-mark single_density bytes n i h in rw m.made (data-mark-of (get_or (sectors_of single_density bytes n) i no_sector).place)
