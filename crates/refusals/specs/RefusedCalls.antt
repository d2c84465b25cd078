-- Section 8 of the specification: the number of each refusal, what is given beside it, and what a call leaves in a lent buffer. When a
-- refusal is given is stated where it is judged. The main property: a refused call leaves the buffer as it was. Assumes nothing.
use Rattle.std.specs.Prelude.{ℕ, List, Result, Ok, Err}
use Rattle.basis.specs.Lists.{written_over}
use Rattle.refusals.specs.declared.Refusal.{Refusal}
use Rattle.refusals.specs.declared.Refusal.TheVariants.{TrackOrSide, CellCount, TooFewBytes, TooManySectors, ListTooShort, NoTimings, TooManyTimings, TimingOutOfRange, TooManyCells, NoRoom, NoSuchSector, NoData, NoRoomForBytes, TooManyBytes, NotATrackFile, NotATrackBlock, NoSuchRevolution, LengthsDiffer, NotASectorLength, TooLongATrack, TrackGivenTwice, TooManyTracks, FluxSection, NoPlainImage, NotTheirFindings, NotAnImage, ImageHeader, ImageEntry, ImageCheckSum}

-- 8.1, 8.2, 8.3, 8.4, 8.5, 8.6, 8.7, 8.8, 8.9, 8.10, 8.11, 8.12, 8.13, 8.14, 8.15, 8.16, 8.17, 8.18, 8.19, 8.20, 8.21, 8.22, 8.23, 8.24, 8.25, 8.26, 8.27, 8.28, 8.29: `number_of`
-- is the number of a refusal, the K of rule 8.K, and `value_of` what is given beside it: the number that it carries, or 0 where it carries none
abbrev pub number_of : Refusal → ℕ
number_of TrackOrSide = 1
number_of (CellCount cells) = 2
number_of (TooFewBytes needed) = 3
number_of (TooManySectors sectors) = 4
number_of (ListTooShort findings) = 5
number_of NoTimings = 6
number_of (TooManyTimings timings) = 7
number_of (TimingOutOfRange index) = 8
number_of (TooManyCells cells) = 9
number_of (NoRoom needed) = 10
number_of (NoSuchSector sectors) = 11
number_of NoData = 12
number_of (NoRoomForBytes needed) = 13
number_of (TooManyBytes given) = 14
number_of NotATrackFile = 15
number_of NotATrackBlock = 16
number_of NoSuchRevolution = 17
number_of LengthsDiffer = 18
number_of NotASectorLength = 19
number_of TooLongATrack = 20
number_of TrackGivenTwice = 21
number_of TooManyTracks = 22
number_of FluxSection = 23
number_of (NoPlainImage number) = 24
number_of NotTheirFindings = 25
number_of NotAnImage = 26
number_of (ImageHeader place) = 27
number_of (ImageEntry entry) = 28
number_of (ImageCheckSum sum) = 29

abbrev pub value_of : Refusal → ℕ
value_of TrackOrSide = 0
value_of (CellCount cells) = cells
value_of (TooFewBytes needed) = needed
value_of (TooManySectors sectors) = sectors
value_of (ListTooShort findings) = findings
value_of NoTimings = 0
value_of (TooManyTimings timings) = timings
value_of (TimingOutOfRange index) = index
value_of (TooManyCells cells) = cells
value_of (NoRoom needed) = needed
value_of (NoSuchSector sectors) = sectors
value_of NoData = 0
value_of (NoRoomForBytes needed) = needed
value_of (TooManyBytes given) = given
value_of NotATrackFile = 0
value_of NotATrackBlock = 0
value_of NoSuchRevolution = 0
value_of LengthsDiffer = 0
value_of NotASectorLength = 0
value_of TooLongATrack = 0
value_of TrackGivenTwice = 0
value_of TooManyTracks = 0
value_of FluxSection = 0
value_of (NoPlainImage number) = number
value_of NotTheirFindings = 0
value_of NotAnImage = 0
value_of (ImageHeader place) = place
value_of (ImageEntry entry) = entry
value_of (ImageCheckSum sum) = sum

-- 8.33: what a call answers, whatever it is called with: what an accepted call gives, or a refusal's number and what is given beside it
pub data Answer (A : Type 0) : Type 0 where
  gives : A → Answer A
  refused : ℕ → ℕ → Answer A

-- the answer of a refusal
abbrev pub refused_with : {A : Type 0} → Refusal → Answer A
refused_with refusal = refused (number_of refusal) (value_of refusal)

-- 8.33: the answer of a call that gives what the rules speak of, or its refusal
abbrev pub answer_of : {A : Type 0} → Result A Refusal → Answer A
answer_of (Ok result) = gives result
answer_of (Err refusal) = refused_with refusal

-- 8.33: the same of a call whose result the rules see through a function, as the count of a record
abbrev pub answer_by : {A B : Type 0} → (A → B) → Result A Refusal → Answer B
answer_by see (Ok result) = gives (see result)
answer_by see (Err refusal) = refused_with refusal

-- 8.31: a lent buffer after a call. Where the call is refused, it is as it was. Where it is accepted, what the call made stands at the
-- front and the rest is kept
unfoldable pub buffer_after : {A B : Type 0} → Answer A → List B → List B → List B
buffer_after (gives result) made buffer = written_over made buffer
buffer_after (refused number value) made buffer = buffer
