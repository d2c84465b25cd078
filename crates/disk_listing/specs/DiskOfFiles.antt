-- Section 13 of the specification, rules 13.41 to 13.45: the tracks and findings that disk_listing makes a page of. Reads are as track_input has
-- them. The main property: the two lists are made of what each file brought, in the order of the files, and no file is passed over (`AllFiles`).
-- Which files these are, and that each is the next argument, is seen in the code of `next_file` and `main`. Assumes nothing.
use Rattle.std.specs.Prelude.{ℕ, ◌+◌, ◌≤◌, ◌≡◌, List, [], ◌++◌, length}
use Rattle.std.proofs.lemmas.List.Edits.{sets}
use Rattle.disk_files.specs.TrackOfFile.{FoundTrack, track_of_file, track_numbers, finding_numbers}
use Rattle.refusals.specs.RefusedCalls.{Answer}
use Rattle.refusals.specs.RefusedCalls.Answer.{gives, refused}
use Rattle.file_reader.specs.declared.Reader.{Reader}
use Rattle.track_file.specs.Portions.{start_of, whole_of}
use Rattle.track_input.specs.Formats.{track_file_steps}
use Rattle.track_input.specs.Reading.{OneRead, portions_of, AllReads}
use Rattle.track_input.specs.declared.Input.{Input}
use Rattle.track_input.specs.declared.Input.TheVariants.{Open, Ended, Failed}
use Rattle.disk_page.specs.Page.{page_answer}
use Rattle.refusals.specs.RefusedCalls.{number_of}
use Rattle.disk_listing.specs.declared.Printed.{Printed as PrintedHere}
use Rattle.disk_listing.specs.declared.Printed.TheVariants.{Whole as WholeHere, Refused as PageRefusedHere, NotTaken as NotTakenHere}
use Rattle.disk_listing.specs.declared.File.{File as FileHere}
use Rattle.disk_listing.specs.declared.File.TheVariants.{Track as TrackHere, Refused as RefusedHere, Unreadable as UnreadableHere}

-- what is told of a file, and of the page, with a refusal as its number
pub data File : Type 0 where
  Track : ℕ → File
  Refused : ℕ → File
  Unreadable : File

pub data Printed : Type 0 where
  Whole : ℕ → Printed
  PageRefused : ℕ → Printed
  NotTaken : Printed

-- a file and a page of the code, as the rules have them
abbrev pub file_seen : FileHere → File
file_seen (TrackHere count) = Track count
file_seen (RefusedHere refusal) = Refused (number_of refusal)
file_seen UnreadableHere = Unreadable

abbrev pub printed_seen : PrintedHere → Printed
printed_seen (WholeHere total) = Whole total
printed_seen (PageRefusedHere refusal) = PageRefused (number_of refusal)
printed_seen NotTakenHere = NotTaken

-- what a file brings: a track or its refusal, or nothing where it cannot be read
pub data Outcome : Type 0 where
  brings : Answer FoundTrack → Outcome
  unreadable : Outcome

-- 13.42, 13.44: what reads bring that led to this input: where it has ended, the track of the file which their bytes make up
unfoldable pub outcome_of : Input Reader → List OneRead → Outcome
outcome_of (Open reader) reads = unreadable
outcome_of (Ended reader) reads = brings (track_of_file 16384 (whole_of (portions_of reads)))
outcome_of Failed reads = unreadable

-- 13.41, 13.44: a file: it cannot be opened, or there are reads of it
pub data OneFile : Outcome → Type 0 where
  not_opened : OneFile unreadable
  opened : (reads : List OneRead) (last : Input Reader) → AllReads track_file_steps (start_of 16384) reads last → OneFile (outcome_of last reads)

-- 13.43, 13.44: what is told of it: how many findings its track has, the number of its refusal, or that it cannot be read
unfoldable pub told : Outcome → File
told (brings (gives found)) = Track (length found.findings)
told (brings (refused number value)) = Refused number
told unreadable = Unreadable

-- 13.43, 13.44: what it adds to the two lists
unfoldable pub tracks_of : Outcome → List ℕ
tracks_of (brings answer) = track_numbers answer
tracks_of unreadable = []

unfoldable pub findings_of : Outcome → List ℕ
findings_of (brings answer) = finding_numbers answer
findings_of unreadable = []

-- 13.41, 13.43, 13.44: a file was taken: there is one that brought what is told of it, and this is added to the two lists, from these indices on.
-- There are at most 901 findings
pub record TakenFile (file : File) (tracks after : List ℕ) (at : ℕ) (findings later : List ℕ) (from : ℕ) : Type 0 where
  pub outcome : Outcome
  pub one_file : OneFile outcome
  pub file_is : file ≡ told outcome
  pub tracks_are : after ≡ sets tracks at (tracks_of outcome)
  pub findings_are : later ≡ sets findings from (findings_of outcome)
  pub few : length (findings_of outcome) ≤ 3604

-- 13.45: whether it is left out, and whether it cannot be read, as 1 or 0
unfoldable pub left_out : Outcome → ℕ
left_out (brings (gives found)) = 0
left_out (brings (refused number value)) = 1
left_out unreadable = 1

unfoldable pub not_read : Outcome → ℕ
not_read (brings answer) = 0
not_read unreadable = 1

-- 13.41, 13.43, 13.45: files, one after another: the two lists that they make, how many are left out, how many of these cannot be read, and the
-- number of the argument after them. The first argument is number 1
pub data Files : (tracks findings : List ℕ) → (left unread next : ℕ) → Type 0 where
  none : Files [] [] 0 0 1
  one_more : {tracks findings : List ℕ} {left unread next : ℕ} {outcome : Outcome} → Files tracks findings left unread next → OneFile outcome
      → Files (tracks ++ tracks_of outcome) (findings ++ findings_of outcome) (left + left_out outcome) (unread + not_read outcome) (next + 1)

-- 13.41, 13.46: all files of a call of so many words, the program's name among them: none is passed over, but for those after more tracks than
-- a page can have
pub record AllFiles (words : ℕ) (tracks findings : List ℕ) (left unread : ℕ) : Type 0 where
  pub next : ℕ
  pub files : Files tracks findings left unread next
  pub all : length tracks ≤ 504 → words ≤ next

-- 13.41: there is a number of words of which these are all files
pub record FilesTaken (tracks findings : List ℕ) (left unread : ℕ) : Type 0 where
  pub words : ℕ
  pub files : AllFiles words tracks findings left unread

-- 13.41, 13.46, 13.47: how the page of these tracks and findings came to be printed: whole, with as many bytes as it has; refused, with this number; or
-- a part of it was not taken
pub data PagePrinted (tracks findings : List ℕ) : Printed → Type 0 where
  whole : {total : ℕ} → page_answer tracks findings ≡ gives total → PagePrinted tracks findings (Whole total)
  page_refused : {number value : ℕ} → page_answer tracks findings ≡ refused number value → PagePrinted tracks findings (PageRefused number)
  not_taken : PagePrinted tracks findings NotTaken
