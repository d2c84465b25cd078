-- The image of a file has 4,608 bytes, and more room than that changes nothing. Assumes nothing.
use Prim.Native.Nat.{ℕ, zero, suc, ◌+◌, ◌*◌, ◌<◌}
use mathlib.Core.Path.{◌≡◌, refl, ◌∙◌}
use mathlib.Core.Bool.{Bool, true, false, cond}
use mathlib.Core.List.{List}
use native.Mathlib.Omega.{arith}
use borrow.Author.Tests.{leb-false}
use lib.Dec.{leb, ltb}
use lib.ListN.{length, get_or, length-append}
use Rattle.basis.specs.Lists.{joined}
use Rattle.basis.proofs.Lists.{length-listed}
use Rattle.cells.specs.CellsAndBytes.{cell}
use Rattle.layouts.specs.Layouts.{double_density}
use Rattle.refusals.specs.RefusedCalls.{Answer}
use Rattle.refusals.specs.RefusedCalls.Answer.{gives, refused}
use Rattle.sector_records.specs.Sectors.{byte_from, bytes_from, no_sector, sectors_of, data_bytes}
use Rattle.sector_records.specs.declared.Sector.{Sector}
use Rattle.sectors.proofs.Calls.{judged-accepted}
use Rattle.sector_image.specs.Image.{index_of, first_unfit, some_outside, image_judged, image_of, image_answer}
use Rattle.sector_image.proofs.Calls.{plain-sector}
use Rattle.sector_image.proofs.Conditions.{all_fit, fits-plain, fits-there}
use Rattle.track_file.specs.TrackFile.{Content, file_answer_in, file_buffer}
use Rattle.file_image.specs.ImageOfFile.{image_given, image_bytes, file_image_answer, file_image}

-- a refusal is no answer that gives something
never : {A : Type 0} {number value m : ℕ} → ◌≡◌ {A = Answer ℕ} (refused number value) (gives m) → A
never e = let z : ◌≡◌ {A = ℕ} 0 1 = cc in absurd (omega arith)

-- sectors of which an image is given: it has 4,608 bytes, and no number from 1 to 9 is out of order
judged-given : (unfit : ℕ) (outside small : Bool) (m : ℕ)
    → cond (leb unfit 9) (refused 24 unfit) (cond outside (refused 24 0) (cond small (refused 13 4608) (gives 4608))) ≡ gives m → (m ≡ 4608) × (9 < unfit)
judged-given unfit outside small m = go (leb unfit 9) outside small refl
  where
    go : (u o s : Bool) → leb unfit 9 ≡ u → cond u (refused 24 unfit) (cond o (refused 24 0) (cond s (refused 13 4608) (gives 4608))) ≡ gives m → (m ≡ 4608) × (9 < unfit)
    go true o s l e = never e
    go false true s l e = never e
    go false false true l e = never e
    go false false false l e = (cc, leb-false unfit 9 l)

-- lists of 512 bytes, joined
joined-long : (part : ℕ → List ℕ) (n : ℕ) → ((i : ℕ) → i < n → length (part i) ≡ 512) → length (joined part n) ≡ 512 * n
unfolding joined
joined-long part zero each = refl
joined-long part (suc n) each =
    length-append (joined part n) (part n) ∙ omega (arith, joined-long part n (λ i h. each i (omega arith)), each n (omega arith))

module _ (bytes : List ℕ) (N T H room m : ℕ) (given : image_answer bytes N T H room ≡ gives m) where
  abbrev sectors : List Sector
  sectors = sectors_of double_density bytes N

  judged : (m ≡ 4608) × (9 < first_unfit sectors)
  unfolding image_answer image_judged
  judged = judged-given (first_unfit sectors) (some_outside sectors) (ltb room 4608) m (judged-accepted bytes N T H (length sectors) m (image_judged sectors room) given).0

  part-long : (i : ℕ) → i < 9 → length (data_bytes 64 (cell bytes N) (get_or sectors (index_of sectors (i + 1)) no_sector)) ≡ 512
  unfolding data_bytes bytes_from
  part-long i h =
      let fit = all_fit sectors judged.1 i h in
      length-listed (byte_from (cell bytes N) ((get_or sectors (index_of sectors (i + 1)) no_sector).data_place + 64)) (get_or sectors (index_of sectors (i + 1)) no_sector).data_length
      ∙ plain-sector double_density bytes N (index_of sectors (i + 1)) (fits-there sectors (i + 1) fit) (fits-plain sectors (i + 1) fit)

  track-long : (m ≡ 4608) × (length (image_of (cell bytes N) sectors) ≡ 4608)
  unfolding image_of
  track-long = (judged.0, joined-long _ 9 part-long)

pub image-long : (cell_room room m : ℕ) (file : List ℕ) → file_image_answer cell_room room file ≡ gives m → (m ≡ 4608) × (length (file_image cell_room file) ≡ 4608)
unfolding file_image_answer file_image image_given image_bytes
image-long cell_room room m file = go (file_answer_in cell_room file) (file_buffer cell_room file)
  where
    go : (answer : Answer Content) (cells : List ℕ) → image_given answer cells room ≡ gives m → (m ≡ 4608) × (length (image_bytes answer cells) ≡ 4608)
    go (gives content) cells e = track-long cells content.cells content.track content.side room m e
    go (refused number value) cells e = never e

pub same-in-room : (cell_room : ℕ) (file : List ℕ) → file_image_answer cell_room 65536 file ≡ file_image_answer cell_room 4608 file
unfolding file_image_answer image_given image_answer image_judged
same-in-room cell_room file = go (file_answer_in cell_room file) (file_buffer cell_room file)
  where
    go : (answer : Answer Content) (cells : List ℕ) → image_given answer cells 65536 ≡ image_given answer cells 4608
    go (gives content) cells = refl
    go (refused number value) cells = refl
