-- What the image of a track holds: each of its nine parts is what reading out the sector of that number gives. Assumes nothing.
use Prim.Native.Nat.{ℕ, zero, suc, ◌+◌, ◌*◌, ◌<◌, ◌≤◌}
use mathlib.Core.Path.{◌≡◌, refl, sym, ap, ◌∙◌}
use mathlib.Core.Bool.{Bool, true, false, cond, not, ◌&&◌}
use mathlib.Core.List.{List, ◌++◌, append_assoc}
use native.Mathlib.Decide.{ℕ_discrete}
use native.Mathlib.Omega.{arith}
use borrow.Author.Tests.{eq-eqb, eqb-true, leb-false}
use lib.Dec.{eqb, leb}
use lib.ListN.{length, get_or, take, drop, length-append}
use lib.Seq.{take-append_seam, drop-append_seam}
use Rattle.basis.specs.Lists.{joined}
use Rattle.basis.proofs.Bools.{and_left, and_right}
use Rattle.basis.proofs.Lists.{length-listed}
use Rattle.basis.proofs.Search.{least-found}
use Rattle.cells.specs.CellsAndBytes.{cell}
use Rattle.cells.proofs.Places.{cell-lt}
use Rattle.refusals.specs.RefusedCalls.{Answer, buffer_after}
use Rattle.refusals.specs.RefusedCalls.Answer.{gives, refused}
use Rattle.layouts.specs.Layouts.{double_density}
use Rattle.layouts.specs.declared.Density.TheVariants.{Double}
use Rattle.sector_records.specs.Sectors.{byte_from, bytes_from, no_sector, data_found, data_length, check_good, least_data, has_data, sector_at, sectors_of, data_bytes}
use Rattle.sector_records.specs.declared.Sector.{Sector}
use Rattle.sector_records.proofs.MarkBytes.{has-data}
use Rattle.sector_records.proofs.Places.{sector-of-mark}
use Rattle.sectors.specs.Calls.{DataRead, index_judged, data_judged, data_answer, data_after, sector_of}
use Rattle.sectors.proofs.Calls.{judged-accepted, follows-given, follows-count, follows-track, index-accepted, data-accepted}
use Rattle.sector_image.specs.Image.{is_plain, numbered, index_of, fits, first_unfit, image_judged, image_of, image_answer, image_after}
use Rattle.sector_image.proofs.Calls.{plain-sector}
use Rattle.sector_image.proofs.Conditions.{all_fit, fits-plain, fits-there}
use Rattle.sector_image.proofs.Parts.{part_of}

-- part i of lists of 512 bytes that are joined
joined-part : (g : ℕ → List ℕ) (n i : ℕ) (rest : List ℕ) → ((k : ℕ) → k < n → length (g k) ≡ 512) → i < n
    → (length (joined g n) ≡ 512 * n) × (take 512 (drop (512 * i) (joined g n ++ rest)) ≡ g i)
unfolding joined
joined-part g zero i rest long h = absurd (omega arith)
joined-part g (suc n) i rest long h = (all (suc n) (λ k l. long k l), go (ℕ_discrete i n) (λ l. (joined-part g n i (g n ++ rest) (λ k b. long k (omega arith)) l).1))
  where
    all : (m : ℕ) → ((k : ℕ) → k < m → length (g k) ≡ 512) → length (joined g m) ≡ 512 * m
    all zero b = refl
    all (suc m) b = length-append (joined g m) (g m) ∙ omega (arith, all m (λ k l. b k (omega arith)), b m (omega arith))

    go : Dec (i ≡ n) → (i < n → take 512 (drop (512 * i) (joined g n ++ (g n ++ rest))) ≡ g i) → take 512 (drop (512 * i) ((joined g n ++ g n) ++ rest)) ≡ g i
    go (yes e) before =
        let l = all n (λ k b. long k (omega arith)) in
        let m = long n (omega arith) in
        rw (e, append_assoc (joined g n) (g n) rest, ← l, drop-append_seam (joined g n) (g n ++ rest), ← m) (take-append_seam (g n) rest)
    go (no e) before = rw (append_assoc (joined g n) (g n) rest) (before (omega arith))

abbrev size : ℕ
size = 4608

-- what an accepted image says of the numbers
accepted-numbers : (sectors : List Sector) (room : ℕ) → image_judged sectors room ≡ gives 4608 → 9 < first_unfit sectors
unfolding image_judged
accepted-numbers sectors room e = go (leb (first_unfit sectors) 9) _ refl e
  where
    go : (b : Bool) (rest : Answer ℕ) → leb (first_unfit sectors) 9 ≡ b → cond b (refused 24 (first_unfit sectors)) rest ≡ gives size → 9 < first_unfit sectors
    go true rest l g = let z : ◌≡◌ {A = ℕ} 0 1 = cc in absurd (omega arith)
    go false rest l g = leb-false (first_unfit sectors) 9 l

-- the number of the sector that was found
number-found : (sectors : List Sector) (number : ℕ) → index_of sectors number < length sectors → (get_or sectors (index_of sectors number) no_sector).number ≡ number
unfolding index_of
number-found sectors number h = eqb-true _ number (least-found (numbered sectors number) (length sectors) 0 (omega arith))

-- a plain sector has data, its check good
plain-good : (s : Sector) → is_plain s ≡ true → s.data_check_good ≡ true
unfolding is_plain
plain-good s e = and_right (eqb s.size_code 2 && s.id_check_good) s.data_check_good e

good-found : (f : ℕ → ℕ) (p : ℕ) → (sector_at double_density f p).data_check_good ≡ true → data_found double_density f p ≡ true
unfolding sector_at
good-found f p e = and_left (data_found double_density f p) (check_good double_density f (least_data double_density f p) (data_length double_density f p)) e

has-mark : (m : ℕ) → not (eqb m 0) ≡ true → m ≡ 0 → ⊥
has-mark m e z =
    let b : not (eqb m 0) ≡ false = rw (eq-eqb m 0 z) in
    let one : ◌≡◌ {A = ℕ} 1 0 = ap (λ (x : Bool). cond {A = ℕ} x 1 0) (sym e ∙ b) in
    omega (arith, one)

-- where the call gives an image, part i of it, from byte 512 * i on, is what reading out the sector of number i + 1 gives, into any buffer
-- that has room for it
pub record Part (bytes : List ℕ) (N T H i : ℕ) (image buffer : List ℕ) : Type 0 where
  pub number : (sector_of double_density bytes N (index_of (sectors_of double_density bytes N) (i + 1))).number ≡ i + 1
  pub answer : data_answer double_density bytes N T H (index_of (sectors_of double_density bytes N) (i + 1)) (length buffer) ≡ gives (record { size = 512; good = true })
  pub bytes_are : take 512 (drop (512 * i) (image_after bytes N T H image))
      ≡ take 512 (data_after double_density bytes N T H (index_of (sectors_of double_density bytes N) (i + 1)) buffer)

module _ (bytes : List ℕ) (N T H : ℕ) (image buffer : List ℕ) (given : image_answer bytes N T H (length image) ≡ gives 4608) (room : 512 ≤ length buffer) where
  abbrev sectors : List Sector
  sectors = sectors_of double_density bytes N

  abbrev f : ℕ → ℕ
  f = cell bytes N

  judged : (image_judged sectors (length image) ≡ gives 4608) × (length sectors ≤ 64) × (N ≤ 131072)
  unfolding image_answer
  judged = judged-accepted bytes N T H (length sectors) 4608 (image_judged sectors (length image)) given

  module _ (i : ℕ) (h : i < 9) where
    abbrev index : ℕ
    index = index_of sectors (i + 1)

    abbrev sector : Sector
    sector = get_or sectors (index_of sectors (i + 1)) no_sector

    fit : fits sectors (i + 1) ≡ true
    fit = all_fit sectors (accepted-numbers sectors (length image) judged.0) i h

    there : index < length sectors
    there = fits-there sectors (i + 1) fit

    plain : is_plain sector ≡ true
    plain = fits-plain sectors (i + 1) fit

    long : sector.data_length ≡ 512
    long = plain-sector double_density bytes N index there plain

    has : has_data sector ≡ true
    has =
        let m = (sector-of-mark double_density bytes N index there).made in
        let g = rw m at (plain-good sector plain) in
        rw m (has-data Double f (cell-lt bytes N) sector.place ∙ good-found f sector.place g)

    next : data_answer double_density bytes N T H index (length buffer) ≡ index_judged (length sectors) index (data_judged sector (length buffer))
    unfolding image_answer data_answer
    next =
        (follows-track _ _ _ (follows-count _ _ _ (follows-given size (index_judged (length sectors) index (data_judged sector (length buffer)))) (length sectors)) bytes N T H).accepted size
        (rw judged.0 at given)

    read : data_answer double_density bytes N T H index (length buffer) ≡ gives (record { size = 512; good = true })
    read =
        next
        ∙ sym (index-accepted (length sectors) (data_judged sector (length buffer)) index there)
        ∙ sym (data-accepted sector (length buffer) (has-mark sector.data_mark has) (omega (arith, long)))
        ∙ rw (long, plain-good sector plain)

    -- the bytes that both have: the data of the sector
    front : (answer : Answer DataRead) → answer ≡ gives (record { size = 512; good = true }) → take 512 (buffer_after answer (part_of f sectors i) buffer) ≡ part_of f sectors i
    unfolding buffer_after data_bytes bytes_from
    front answer e = rw (e, ← long-part) (take-append_seam (part_of f sectors i) (drop (length (part_of f sectors i)) buffer))
      where
        long-part : length (part_of f sectors i) ≡ 512
        long-part = length-listed (byte_from f (sector.data_place + 64)) sector.data_length ∙ long

  each_long : (k : ℕ) → k < 9 → length (part_of f sectors k) ≡ 512
  unfolding data_bytes bytes_from
  each_long k h = length-listed (byte_from f ((sector k h).data_place + 64)) (sector k h).data_length ∙ long k h

  part-of-image : (i : ℕ) → i < 9 → take 512 (drop (512 * i) (image_after bytes N T H image)) ≡ part_of f sectors i
  unfolding buffer_after image_of
  part-of-image i h = rw given (joined-part (part_of f sectors) 9 i _ each_long h).1

  pub part-read-out : (i : ℕ) → i < 9 → Part bytes N T H i image buffer
  unfolding double_density
  part-read-out i h =
      record {
        number = number-found sectors (i + 1) (there i h);
        answer = read i h;
        bytes_are = part-of-image i h ∙ sym (front i h _ (read i h));
      }
