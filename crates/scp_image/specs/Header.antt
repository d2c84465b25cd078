-- Section 19 of the specification, rules 19.1 to 19.7: the header of a SuperCard Pro image.
--
--   byte    0 1 2    3        4          5            6      7      8      9           10     11          12 to 15   16 + 4 e
--           S C P    version  disk type  revolutions  first  last   flags  cell width  heads  resolution  check sum  entry e, 0 to 167
--                                                     track  track                                        4 bytes    4 bytes
--
-- n is the length of the whole image. The main property: the call gives the ten numbers of the header, or a refusal. Assumes nothing.
use Rattle.std.specs.Prelude.{ℕ, ◌/◌, ◌%◌, Bool, cond, not, ◌&&◌, ◌||◌, List, [], ◌∷◌, length, take, drop, ◌==◌, nat_lt, slice_index, Option, Some, None}
use Rattle.basis.specs.Bytes.{number}
use Rattle.refusals.specs.RefusedCalls.{Answer, refused_with, buffer_after}
use Rattle.refusals.specs.RefusedCalls.Answer.{gives}
use Rattle.refusals.specs.declared.Refusal.TheVariants.{NotAnImage, ImageHeader}

-- 19.1: the first three bytes are not the letters SCP
abbrev pub other_letters : List ℕ → Bool
other_letters image = not (slice_index image 0 == 83 && (slice_index image 1 == 67 && slice_index image 2 == 80))

-- 8.26, 19.5: no image: of its first 688 bytes some are not there, it is shorter than these or longer than its offsets reach, or the letters are
-- others
unfoldable pub not_an_image : (image : List ℕ) (n : ℕ) → Bool
not_an_image image n = nat_lt (length image) 688 || (nat_lt n 688 || (nat_lt 4294967295 n || other_letters image))

-- 19.2: the numbers of the header that are judged or used: how many revolutions there are, the first and the last track, the flags, the heads
abbrev pub revolutions_of : List ℕ → ℕ
revolutions_of image = slice_index image 5

abbrev pub first_track : List ℕ → ℕ
first_track image = slice_index image 6

abbrev pub last_track : List ℕ → ℕ
last_track image = slice_index image 7

abbrev pub flags_of : List ℕ → ℕ
flags_of image = slice_index image 8

abbrev pub heads_of : List ℕ → ℕ
heads_of image = slice_index image 10

-- 19.2: the check sum that the header says
abbrev pub check_sum_of : List ℕ → ℕ
check_sum_of image = number (drop 12 image)

-- 19.3: what the flags say by their bits 4, 5 and 6: the image may be written to, it ends with a footer, it is of another medium than a floppy disk
abbrev pub may_change : ℕ → Bool
may_change flags = flags / 16 % 2 == 1

abbrev pub has_footer : ℕ → Bool
has_footer flags = flags / 32 % 2 == 1

abbrev pub is_extended : ℕ → Bool
is_extended flags = flags / 64 % 2 == 1

-- 19.4, 19.6: the place of the first byte that is not taken, and 12 where all are: no revolutions, a first track above the last, a last track above
-- 167, another medium, a cell width other than 0 and 16, heads above 2, a unit other than 25 ns. Version, disk type and the other flags are not
-- judged
unfoldable pub fault_among : (revolutions first last flags width heads resolution : ℕ) → ℕ
fault_among revolutions first last flags width heads resolution =
    cond (revolutions == 0) 5
    (cond (nat_lt last first) 6
    (cond (nat_lt 167 last) 7
    (cond (is_extended flags) 8
    (cond (not (width == 0) && not (width == 16)) 9
    (cond (nat_lt 2 heads) 10
    (cond (not (resolution == 0)) 11
    12))))))

abbrev pub fault_of : List ℕ → ℕ
fault_of image =
    fault_among (revolutions_of image) (first_track image) (last_track image) (flags_of image) (slice_index image 9) (heads_of image) (slice_index image 11)

-- 8.26, 8.27, 19.5, 19.6: 26 for what is no image, then 27 for the first byte of the header that is not taken, and else what `next` answers
unfoldable pub header_judged : {A : Type 0} → (image : List ℕ) (n : ℕ) → Answer A → Answer A
header_judged image n next =
    cond (not_an_image image n) (refused_with NotAnImage) (cond (nat_lt (fault_of image) 12) (refused_with (ImageHeader (fault_of image))) next)

-- 19.7: the numbers of the header: version, disk type, revolutions, first and last track, flags, cell width, heads, resolution and check sum
unfoldable pub header_numbers : List ℕ → List ℕ
header_numbers image =
    slice_index image 3 ∷ slice_index image 4 ∷ slice_index image 5 ∷ slice_index image 6 ∷ slice_index image 7 ∷ slice_index image 8 ∷ slice_index image 9 ∷ slice_index image 10
    ∷ slice_index image 11 ∷ check_sum_of image ∷ []

-- 9.71, 19.7: the call on the header gives 10, how many numbers it has
abbrev pub header_answer : (image : List ℕ) (n : ℕ) → Answer ℕ
header_answer image n = header_judged image n (gives 10)

-- 9.71, 9.75, 19.7: the lent list afterwards: the numbers at its front, as many as there is room for, and what follows kept; beside a refusal all of
-- it is kept
abbrev pub header_after : (image : List ℕ) (n : ℕ) → List ℕ → List ℕ
header_after image n list = buffer_after (header_answer image n) (take (length list) (header_numbers image)) list

-- a place that a search answers, where `bound` stands for none
abbrev pub place_below : (bound place : ℕ) → Option ℕ
place_below bound place = cond (nat_lt place bound) (Some place) None
