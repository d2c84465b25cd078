-- What the call is told of a track's sectors, and that the image is judged after them. Assumes nothing.
use Prim.Native.Nat.{ℕ, ◌+◌, ◌<◌, ◌≤◌}
use mathlib.Core.Path.{◌≡◌, sym}
use mathlib.Core.Bool.{true, ◌&&◌}
use mathlib.Core.List.{List}
use borrow.Author.Tests.{eqb-true}
use lib.Dec.{eqb}
use lib.ListN.{length, get_or}
use Rattle.basis.proofs.Bools.{and_left, and_right}
use Rattle.cells.specs.CellsAndBytes.{cell}
use Rattle.refusals.specs.RefusedCalls.{Answer, buffer_after}
use Rattle.refusals.specs.RefusedCalls.Answer.{gives}
use Rattle.layouts.specs.Layouts.{double_density}
use Rattle.layouts.specs.declared.Layout.{Layout}
use Rattle.sector_records.specs.Sectors.{no_sector, length_of, data_length, data_found, id_byte, check_good, least_data, sector_at, sectors_of}
use Rattle.sector_records.specs.declared.Sector.{Sector}
use Rattle.sector_records.proofs.Places.{sector-of-mark}
use Rattle.sectors.specs.Calls.{sectors_answer}
use Rattle.sectors.proofs.Calls.{list-accepted, Follows, follows-given, follows-count, follows-track}
use Rattle.sector_image.specs.Image.{is_plain, index_of, first_unfit, image_judged, image_of, image_answer, image_after}
use Rattle.sector_image.specs.PrivateContracts.{OfTrack, AllThere}
use Rattle.sector_image.proofs.Conditions.{all_fit, fits-plain, fits-there}

-- what writing the image asks, where all nine numbers are in order
pub all_there : (sectors : List Sector) → OfTrack sectors → 9 < first_unfit sectors → AllThere sectors
all_there sectors track h =
    record {
      there = λ i b. below i b;
      long = λ i b. track.plain (index_of sectors (i + 1)) (below i b) (fits-plain sectors (i + 1) (all_fit sectors h i b));
    }
  where
    below : (i : ℕ) → i < 9 → index_of sectors (i + 1) < length sectors
    below i b = fits-there sectors (i + 1) (all_fit sectors h i b)

-- a plain sector has 512 bytes: its data check is good, so it has data, and its size code is 2
plain-record : (layout : Layout) (f : ℕ → ℕ) (p : ℕ) → is_plain (sector_at layout f p) ≡ true → (sector_at layout f p).data_length ≡ 512
unfolding is_plain sector_at data_length length_of
plain-record layout f p e =
    let s = sector_at layout f p in
    let sized = and_left (eqb (id_byte layout.mark_length f p 3) 2 && check_good layout f p 4) s.data_check_good e in
    let code = eqb-true (id_byte layout.mark_length f p 3) 2 (and_left (eqb (id_byte layout.mark_length f p 3) 2) (check_good layout f p 4) sized) in
    let good = and_right (eqb (id_byte layout.mark_length f p 3) 2 && check_good layout f p 4) s.data_check_good e in
    rw (and_left (data_found layout f p) (check_good layout f (least_data layout f p) (data_length layout f p)) good, code)

pub plain-sector : (layout : Layout) (bytes : List ℕ) (n i : ℕ) → i < length (sectors_of layout bytes n) → is_plain (get_or (sectors_of layout bytes n) i no_sector) ≡ true
    → (get_or (sectors_of layout bytes n) i no_sector).data_length ≡ 512
plain-sector layout bytes n i h e =
    let s = sector-of-mark layout bytes n i h in
    let m = s.made in
    rw m (plain-record layout (cell bytes n) (get_or (sectors_of layout bytes n) i no_sector).place (rw m at e))

-- a list that was accepted has at most 64 sectors
pub few_listed : (bytes : List ℕ) (N T H m : ℕ) → gives m ≡ sectors_answer double_density bytes N T H → m ≤ 64
few_listed bytes N T H m g = (list-accepted double_density bytes N T H m (sym g)).1

pub of-track : (bytes : List ℕ) (n : ℕ) → OfTrack (sectors_of double_density bytes n)
of-track bytes n = record { plain = λ i b e. plain-sector double_density bytes n i b e }

-- the image is judged after the list of sectors
module _ (bytes : List ℕ) (N T H : ℕ) where
  pub image-follows : (room : ℕ) → Follows (sectors_answer double_density bytes N T H) (image_answer bytes N T H room) (image_judged (sectors_of double_density bytes N) room)
  unfolding sectors_answer image_answer
  image-follows room =
      follows-track _ _ _ (follows-count _ _ _ (follows-given (length (sectors_of double_density bytes N)) (image_judged (sectors_of double_density bytes N) room)) (length (sectors_of double_density bytes N))) bytes N T H

  pub image-given : (count : ℕ) → gives count ≡ sectors_answer double_density bytes N T H → (sectors : List Sector) → sectors ≡ sectors_of double_density bytes N
      → (image after : List ℕ) (x : Answer ℕ) → x ≡ image_judged sectors (length image) → after ≡ buffer_after (image_judged sectors (length image)) (image_of (cell bytes N) sectors) image
      → (x ≡ image_answer bytes N T H (length image)) × (after ≡ image_after bytes N T H image)
  image-given count g sectors are image after x e h =
      let a = (image-follows (length image)).accepted count (sym g) in
      rw (a, ← are) (e, h)
