-- Section 9 of the specification, rules 9.2 to 9.4 and 9.41 to 9.43: the calls that list sectors, give one by its index and read one out, with
-- the refusals of section 8 that they judge. The layout says which density the track has. `bytes` are the packed cells of a track of N cells; T and H are the track and the side of the drive. The
-- main property: each answer is the first refusal that holds, in the order of section 9, or what the call gives. Assumes nothing.
use Rattle.std.specs.Prelude.{ℕ, Bool, not, cond, ◌||◌, List, [], ltb, leb, length, get_or, Result, Ok, Err}
use Rattle.cells.specs.CellsAndBytes.{cell, bytes_for}
use Rattle.refusals.specs.RefusedCalls.{Answer, answer_by, buffer_after}
use Rattle.refusals.specs.RefusedCalls.Answer.{gives, refused}
use Rattle.refusals.specs.declared.Refusal.{Refusal}
use Rattle.layouts.specs.declared.Layout.{Layout}
use Rattle.sector_records.specs.Sectors.{has_data, no_sector, sectors_of, kept, data_bytes}
use Rattle.sector_records.specs.declared.Sector.{Sector}
use Rattle.sector_records.specs.declared.Sectors.{Sectors}
use Rattle.sectors.specs.declared.Indexed.{Indexed}
use Rattle.sectors.specs.declared.ReadOut.{ReadOut}

-- 8.1, 8.2, 8.3: T above 83 or H above 1; N below 20,000 or above 131,072; fewer bytes than N cells need. The first of the three that
-- holds, and else what `next` answers
unfoldable pub track_judged : {A : Type 0} → List ℕ → (N T H : ℕ) → Answer A → Answer A
track_judged bytes N T H next =
    cond (ltb 83 T || ltb 1 H) (refused 1 0)
    (cond (ltb N 20000 || ltb 131072 N) (refused 2 N)
    (cond (ltb (length bytes) (bytes_for N)) (refused 3 (bytes_for N)) next))

-- 8.4: more than 64 sectors, and else what `next` answers
unfoldable pub count_judged : {A : Type 0} → ℕ → Answer A → Answer A
count_judged count next = cond (ltb 64 count) (refused 4 count) next

-- 8.11: an index that is not below the number of sectors, and else what `next` answers
unfoldable pub index_judged : {A : Type 0} → (count index : ℕ) → Answer A → Answer A
index_judged count index next = cond (leb count index) (refused 11 count) next

-- 9.3, 9.41: the list of sectors: refusals 1 to 4, and else how many there are
unfoldable pub sectors_answer : Layout → List ℕ → (N T H : ℕ) → Answer ℕ
sectors_answer layout bytes N T H = track_judged bytes N T H (count_judged (length (sectors_of layout bytes N)) (gives (length (sectors_of layout bytes N))))

-- 8.32, 9.3, 9.23: the sectors beside that answer: all of them, or none and records of zeros beside a refusal
unfoldable pub sectors_beside : Answer ℕ → List Sector → Sectors
sectors_beside (gives count) sectors = kept sectors
sectors_beside (refused number value) sectors = kept []

-- 8.32, 9.23: the sectors that a call gives, as the struct keeps them; none beside a refusal
abbrev pub sectors_given : Result Sectors Refusal → Sectors
sectors_given (Ok sectors) = sectors
sectors_given (Err refusal) = kept []

-- 9.2, 9.42: a sector by its index: refusals 1 to 4 and 11, and else how many sectors the track has
unfoldable pub index_answer : Layout → List ℕ → (N T H index : ℕ) → Answer ℕ
index_answer layout bytes N T H index =
    track_judged bytes N T H
    (count_judged (length (sectors_of layout bytes N)) (index_judged (length (sectors_of layout bytes N)) index (gives (length (sectors_of layout bytes N)))))

-- 8.32, 9.2: the record beside that answer: the sector's, or zeros beside a refusal
unfoldable pub record_beside : Answer ℕ → Sector → Sector
record_beside (gives count) sector = sector
record_beside (refused number value) sector = no_sector

-- 8.32: the record that a call gives; zeros beside a refusal
abbrev pub record_given : Result Indexed Refusal → Sector
record_given (Ok indexed) = indexed.sector
record_given (Err refusal) = no_sector

-- 6.5: sector `index` of a track, counted from 0
abbrev pub sector_of : Layout → List ℕ → (N index : ℕ) → Sector
sector_of layout bytes N index = get_or (sectors_of layout bytes N) index no_sector

-- 9.4: what reading out gives: L, and whether the data check is good
pub record DataRead : Type 0 where
  pub size : ℕ
  pub good : Bool

-- an answer of reading out, with a refusal as its number and the value beside it
abbrev pub read_out_answer : Result ReadOut Refusal → Answer DataRead
read_out_answer = answer_by (λ read. record { size = read.size; good = read.check_good })

-- 6.18, 8.12, 8.13, 9.4: reading out this sector into `room` bytes: 12 where it has no data, 13 where they are too few for L, and else L
-- and the data check, be it good or bad
unfoldable pub data_judged : Sector → ℕ → Answer DataRead
data_judged s room =
    cond (not (has_data s)) (refused 12 0)
    (cond (ltb room s.data_length) (refused 13 s.data_length)
    (gives (record { size = s.data_length; good = s.data_check_good })))

-- 9.4, 9.43: reading out sector `index`: refusals 1 to 4, 11, 12 and 13, in this order
unfoldable pub data_answer : Layout → List ℕ → (N T H index room : ℕ) → Answer DataRead
data_answer layout bytes N T H index room =
    track_judged bytes N T H
    (count_judged (length (sectors_of layout bytes N))
    (index_judged (length (sectors_of layout bytes N)) index (data_judged (sector_of layout bytes N index) room)))

-- 6.18, 9.4: the lent buffer afterwards: the L bytes at its front, and what follows kept; beside a refusal all of it is kept
abbrev pub data_after : Layout → List ℕ → (N T H index : ℕ) → List ℕ → List ℕ
data_after layout bytes N T H index buffer =
    buffer_after (data_answer layout bytes N T H index (length buffer)) (data_bytes layout.mark_length (cell bytes N) (sector_of layout bytes N index)) buffer
