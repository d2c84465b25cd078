-- Bytes stored one after the other, from a place on, and the sectors of an image stored so. Assumes nothing.
use Prim.Native.Nat.{ℕ, suc, ◌+◌, ◌*◌, ◌≤◌}
use mathlib.Core.Path.{◌≡◌, refl, ap, ◌∙◌}
use mathlib.Core.List.{List, [], ◌∷◌, ◌++◌}
use native.Mathlib.Nat.{zero-add, add-zero}
use native.Mathlib.Omega.{arith}
use native.Mathlib.Numerals.{add-one}
use lib.ListN.{length, get_or, set, length-append}
use lib.Seq.{sets, sets-eq, length-sets}
use Rattle.basis.specs.Lists.{listed, joined, written_over}
use Rattle.basis.proofs.Lists.{length-listed}
use Rattle.basis.proofs.Joined.{joined-more}
use Rattle.sector_records.specs.Sectors.{byte_from, bytes_from, no_sector, data_bytes}
use Rattle.sector_records.specs.declared.Sector.{Sector}
use Rattle.sector_image.specs.Image.{index_of, image_of}

pub sets_more : (l : List ℕ) (i : ℕ) (xs ys : List ℕ) → sets (sets l i xs) (i + length xs) ys ≡ sets l i (xs ++ ys)
sets_more l i [] ys = rw (add-zero i)
sets_more l i (x ∷ xs) ys =
    let e : i + suc (length xs) ≡ suc i + length xs = omega arith in
    rw e (sets_more (set l i x) (suc i) xs ys)

pub sets-length : (l after : List ℕ) (i : ℕ) (vs : List ℕ) → after ≡ sets l i vs → length after ≡ length l
sets-length l after i vs e = ap length e ∙ length-sets l i vs

-- one more of the elements that are stored from `at` on
pub stored_more : (f : ℕ → ℕ) (l : List ℕ) (at i v : ℕ) (m : List ℕ) → m ≡ sets l at (listed f i) → v ≡ f i → set m (at + i) v ≡ sets l at (listed f (i + 1))
unfolding listed
stored_more f l at i v m g e =
    rw (g, e, add-one) (rw (length-listed f i) at (sets_more l at (listed f i) (f i ∷ [])))

-- the data of sector i + 1
abbrev pub part_of : (ℕ → ℕ) → List Sector → ℕ → List ℕ
part_of f sectors i = data_bytes 64 f (get_or sectors (index_of sectors (i + 1)) no_sector)

-- the first i sectors, stored at the front of an image
pub record Stored (f : ℕ → ℕ) (sectors : List Sector) (before : List ℕ) (i : ℕ) (after : List ℕ) : Type 0 where
  pub long : length (joined (part_of f sectors) i) ≡ 512 * i
  pub bytes : after ≡ sets before 0 (joined (part_of f sectors) i)

module _ (f : ℕ → ℕ) (sectors : List Sector) (before : List ℕ) where
  pub none-stored : Stored f sectors before 0 before
  unfolding joined
  none-stored = record { long = refl; bytes = refl }

  pub one-stored : (i : ℕ) (now after : List ℕ) (s : Sector) → Stored f sectors before i now → s ≡ get_or sectors (index_of sectors (i + 1)) no_sector → s.data_length ≡ 512
      → after ≡ sets now (512 * i) (bytes_from f (s.data_place + 64) 512) → Stored f sectors before (i + 1) after
  unfolding data_bytes bytes_from
  one-stored i now after s stored e l g =
      let part : bytes_from f (s.data_place + 64) 512 ≡ part_of f sectors i = rw (← e, l) in
      record {
        long = rw (joined-more (part_of f sectors) i) (omega (arith, length-append (joined (part_of f sectors) i) (part_of f sectors i), stored.long, ap length part, length-listed (byte_from f (s.data_place + 64)) 512));
        bytes = g ∙ rw (stored.bytes, part, ← stored.long, joined-more (part_of f sectors) i) (rw zero-add at (sets_more before 0 (joined (part_of f sectors) i) (part_of f sectors i)));
      }

  pub all-stored : (after : List ℕ) → 4608 ≤ length before → Stored f sectors before 9 after → after ≡ written_over (image_of f sectors) before
  unfolding image_of
  all-stored after h stored = stored.bytes ∙ (rw zero-add at (sets-eq (joined (part_of f sectors) 9) before 0 (omega (arith, stored.long))))
