-- Section 19 of the specification, rules 19.8 to 19.11: the entries of a SuperCard Pro image, which say where its track blocks begin. n is the length
-- of the whole image, e is an entry from 0 to 167. The main property: the call gives for each entry where its block begins and before what it has to
-- end, or a refusal. Assumes nothing.
use Rattle.std.specs.Prelude.{ℕ, zero, suc, ◌+◌, ◌-◌, ◌*◌, ◌/◌, ◌%◌, min, Bool, cond, not, ◌&&◌, ◌||◌, List, length, drop, ◌==◌, nat_lt}
use Rattle.basis.specs.Bytes.{number}
use Rattle.basis.specs.Lists.{listed}
use Rattle.basis.specs.Search.{least, count}
use Rattle.refusals.specs.RefusedCalls.{Answer, refused_with, buffer_after}
use Rattle.refusals.specs.RefusedCalls.Answer.{gives}
use Rattle.refusals.specs.declared.Refusal.TheVariants.{ImageEntry}
use Rattle.scp_image.specs.Header.{revolutions_of, first_track, last_track, flags_of, heads_of, has_footer, header_judged}

-- 19.8: where the block of entry e begins, counted from the image's beginning; 0 where there is none
abbrev pub start_of : List ℕ → ℕ → ℕ
start_of image e = number (drop (16 + 4 * e) image)

-- 19.8: the track of this entry is there
abbrev pub is_there : List ℕ → ℕ → Bool
is_there image e = not (start_of image e == 0)

-- 19.10: the limit of an image's blocks: its end, or where its footer of 48 bytes begins
unfoldable pub blocks_end : (flags n : ℕ) → ℕ
blocks_end flags n = cond (has_footer flags) (n - 48) n

abbrev pub limit_of : (image : List ℕ) (n : ℕ) → ℕ
limit_of image n = blocks_end (flags_of image) n

-- 19.10: where entry e, at `start`, has to end, looked at beside entry f, at `other`: at `other`, where this is not before `start` and before `end`
unfoldable pub nearer : (e f start other end : ℕ) → ℕ
nearer e f start other end = cond (not (f == e) && (not (nat_lt other start) && nat_lt other end)) other end

-- 19.10: the same beside all entries below k: the least start of another entry that is not before its own, and at the latest the limit
unfoldable pub end_among : (image : List ℕ) (limit e : ℕ) → ℕ → ℕ
end_among image limit e zero = limit
end_among image limit e (suc f) = nearer e f (start_of image e) (start_of image f) (end_among image limit e f)

-- 19.10: before what the block of entry e has to end
abbrev pub end_of : (image : List ℕ) (limit e : ℕ) → ℕ
end_of image limit e = end_among image limit e 168

-- 19.9: an entry of the side that an image of one head has not: with 1 only side 0 is there, with 2 only side 1
abbrev pub other_side : (heads e : ℕ) → Bool
other_side heads e = heads == 1 && e % 2 == 1 || heads == 2 && e % 2 == 0

-- 19.9: a block that cannot stand there: its entry lies outside of first to last track or on the other side; it begins within the first 688 bytes; or
-- there is no room for three letters, a number and a table of twelve bytes for each revolution
unfoldable pub misplaced : (revolutions first last heads e start end : ℕ) → Bool
misplaced revolutions first last heads e start end =
    not (start == 0)
    && (nat_lt e first || (nat_lt last e || (other_side heads e || (nat_lt start 688 || nat_lt end (start + (4 + 12 * revolutions))))))

abbrev pub bad_entry : (image : List ℕ) (limit e : ℕ) → Bool
bad_entry image limit e =
    misplaced (revolutions_of image) (first_track image) (last_track image) (heads_of image) e (start_of image e) (end_of image limit e)

-- 19.9: the first entry whose block cannot stand there, and 168 where there is none
abbrev pub first_bad : (image : List ℕ) (limit : ℕ) → ℕ
first_bad image limit = least (bad_entry image limit) 168 0

-- 19.11: of the numbers that are given, those of entry e have the indexes 2 e and 2 e + 1: where its block begins, and before what it has to end; both
-- are 0 where there is none
unfoldable pub place_number : (image : List ℕ) (limit i : ℕ) → ℕ
place_number image limit i =
    cond (i % 2 == 0) (start_of image (i / 2)) (cond (is_there image (i / 2)) (end_of image limit (i / 2)) 0)

-- 8.28, 9.72, 19.9, 19.11: refusals 26 and 27, then 28; else how many tracks are there
abbrev pub entries_answer : (image : List ℕ) (n : ℕ) → Answer ℕ
entries_answer image n =
    header_judged image n
    (cond (nat_lt (first_bad image (limit_of image n)) 168) (refused_with (ImageEntry (first_bad image (limit_of image n))))
    (gives (count (is_there image) 168 0)))

-- 9.72, 9.75, 19.11: the lent list afterwards: as many of the 336 numbers as there is room for at its front, and what follows kept; beside a refusal
-- all of it is kept
abbrev pub entries_after : (image : List ℕ) (n : ℕ) → List ℕ → List ℕ
entries_after image n list = buffer_after (entries_answer image n) (listed (place_number image (limit_of image n)) (min (length list) 336)) list
