-- Section 15 of the specification: the plain image of a track. It has the data of nine sectors, and nothing else of the track:
--
--   sector 1, 512 bytes | sector 2, 512 bytes | .. | sector 9, 512 bytes         4,608 bytes in all
--
-- The main property: sector k stands from byte 512 * (k - 1) on, and there is an image only where the track has just the sectors 1 to 9, each
-- once and whole. `bytes` are the packed cells of a track of N cells in double density; T and H are the track and the side of the drive.
-- Assumes nothing.
use Rattle.std.specs.Prelude.{ℕ, ◌+◌, Bool, not, cond, ◌&&◌, ◌||◌, List, eqb, ltb, leb, length, get_or}
use Rattle.basis.specs.Lists.{joined}
use Rattle.basis.specs.Search.{least, count}
use Rattle.cells.specs.CellsAndBytes.{cell}
use Rattle.refusals.specs.RefusedCalls.{Answer, refused_with, buffer_after}
use Rattle.refusals.specs.RefusedCalls.Answer.{gives}
use Rattle.refusals.specs.declared.Refusal.TheVariants.{NoRoomForBytes, NoPlainImage}
use Rattle.layouts.specs.Layouts.{double_density}
use Rattle.sector_records.specs.Sectors.{no_sector, sectors_of, data_bytes}
use Rattle.sector_records.specs.declared.Sector.{Sector}
use Rattle.sectors.specs.Calls.{track_judged, count_judged}

-- 15.2: a sector is plain: its size code is 2, as a whole byte, and its ID check and its data check are good. Without data the data check is
-- bad (rule 6.16)
unfoldable pub is_plain : Sector → Bool
is_plain s = eqb s.size_code 2 && s.id_check_good && s.data_check_good

-- 15.2: the sector at this index has this number
abbrev pub numbered : List Sector → ℕ → ℕ → Bool
numbered sectors number i = eqb (get_or sectors i no_sector).number number

-- 15.3: the index of the first sector with this number
unfoldable pub index_of : List Sector → ℕ → ℕ
index_of sectors number = least (numbered sectors number) (length sectors) 0

-- 15.2: a number is in order: just one sector has it, whatever its checks, and that sector is plain
unfoldable pub fits : List Sector → ℕ → Bool
fits sectors number = eqb (count (numbered sectors number) (length sectors) 0) 1 && is_plain (get_or sectors (index_of sectors number) no_sector)

-- 15.4: the first number from 1 to 9 that is not in order; 10 where all are
unfoldable pub first_unfit : List Sector → ℕ
first_unfit sectors = least (λ number. not (fits sectors number)) 9 1

-- 15.2: the sector at this index has a number that is none of 1 to 9
abbrev pub outside : List Sector → ℕ → Bool
outside sectors i = ltb (get_or sectors i no_sector).number 1 || ltb 9 (get_or sectors i no_sector).number

-- 15.2: some sector has such a number
unfoldable pub some_outside : List Sector → Bool
some_outside sectors = ltb (least (outside sectors) (length sectors) 0) (length sectors)

-- 8.24, 8.13, 15.4, 15.5: an image of these sectors in `room` bytes: 24 with the least number that is not in order, 24 with 0 where a number
-- outside 1 to 9 is all that stands in the way, 13 where there is too little room, and else 4,608
unfoldable pub image_judged : List Sector → ℕ → Answer ℕ
image_judged sectors room =
    cond (leb (first_unfit sectors) 9) (refused_with (NoPlainImage (first_unfit sectors)))
    (cond (some_outside sectors) (refused_with (NoPlainImage 0))
    (cond (ltb room 4608) (refused_with (NoRoomForBytes 4608)) (gives 4608)))

-- 15.1, 15.3: the image: the data bytes of sector 1, those of sector 2, and so on up to sector 9
unfoldable pub image_of : (ℕ → ℕ) → List Sector → List ℕ
image_of f sectors = joined (λ i. data_bytes 64 f (get_or sectors (index_of sectors (i + 1)) no_sector)) 9

-- 9.61: the call: refusals 1 to 4, 24 and 13, in this order, and else 4,608
unfoldable pub image_answer : List ℕ → (N T H room : ℕ) → Answer ℕ
image_answer bytes N T H room =
    track_judged bytes N T H
    (count_judged (length (sectors_of double_density bytes N)) (image_judged (sectors_of double_density bytes N) room))

-- 9.61, 15.1: the lent buffer afterwards: the image at its front, and what follows kept; beside a refusal all of it is kept
abbrev pub image_after : List ℕ → (N T H : ℕ) → List ℕ → List ℕ
image_after bytes N T H image =
    buffer_after (image_answer bytes N T H (length image)) (image_of (cell bytes N) (sectors_of double_density bytes N)) image
