-- Section 9 of the specification, rules 9.31 to 9.34, 9.37 and 9.54: answers as callers from C get them. The main property: a call returns a
-- number, 0 where it is accepted and else the refusal's, and stores the value beside it. Assumes nothing.
use Rattle.std.specs.Prelude.{ℕ, cond, List, [], ◌∷◌, ℤ, length, take}
use Rattle.basis.specs.Lists.{written_over}
use Rattle.refusals.specs.RefusedCalls.{Answer}
use Rattle.refusals.specs.RefusedCalls.Answer.{gives, refused}
use Rattle.sectors.specs.Calls.{DataRead}
use Rattle.sector_records.specs.declared.Sector.{Sector}
use Rattle.track_file.specs.TrackFile.{Content}
use Rattle.two_reads.specs.GoodRead.{Part}

-- 9.31: the number that a call returns, whatever it gives: 0 where it is accepted, and else the number of the refusal
abbrev pub number_in : {A : Type 0} → Answer A → ℕ
number_in (gives result) = 0
number_in (refused number value) = number

-- 9.31: the value that it stores: what an accepted call counted, or what is given beside the refusal
abbrev pub value_in : Answer ℕ → ℕ
value_in (gives count) = count
value_in (refused number value) = value

-- 9.37: a step stores its offset e. A refused one keeps what was there
abbrev pub offset_stored : Answer ℕ → (e before : ℤ) → ℤ
offset_stored (gives count) e before = e
offset_stored (refused number value) e before = before

-- 9.31, 9.32: reading out stores how many data bytes there are, and in the lent check result 1 for a good check and 0 for a bad one. A
-- refused call keeps the check result
abbrev pub value_read : Answer DataRead → ℕ
value_read (gives read) = read.size
value_read (refused number value) = value

abbrev pub check_read : Answer DataRead → ℕ → ℕ
check_read (gives read) before = cond read.good 1 0
check_read (refused number value) before = before

-- 9.31, 9.33: a track file stores how many cells it has, and its T and H at the front of a lent list, as many of the two as there is room
-- for. A refused call keeps the list
abbrev pub value_given : Answer Content → ℕ
value_given (gives content) = content.cells
value_given (refused number value) = value

abbrev pub place_given : Answer Content → List ℕ → List ℕ
place_given (gives content) place = written_over (take (length place) (content.track ∷ content.side ∷ [])) place
place_given (refused number value) place = place

-- 9.31, 9.54: the part of a good read stores how many bytes it has, and which read it is of: 0 for the first and 1 for the second. A
-- refused call stores 0 for it
abbrev pub part_length : Answer Part → ℕ
part_length (gives part) = part.count
part_length (refused number value) = value

abbrev pub which_read : Answer Part → ℕ
which_read (gives part) = cond part.second 1 0
which_read (refused number value) = 0

-- 9.34: a sector's record as thirteen numbers, in the order of rule 6.16, with 1 for a good check and 0 for a bad one
unfoldable pub sector_numbers : Sector → List ℕ
sector_numbers s =
    s.place ∷ s.mark ∷ s.track ∷ s.side ∷ s.number ∷ s.size_code ∷ cond s.id_check_good 1 0 ∷ s.data_place ∷ s.data_mark
    ∷ s.data_length ∷ cond s.data_check_good 1 0 ∷ s.data_end ∷ s.density ∷ []
