-- Section 13 of the specification, rules 13.1, 13.2, 13.5 and 13.62: how a file is read from an input, a track file or an old flux file. Of an
-- input such as the system's a contract says how many bytes a read may put at the start of a portion, and not which. So a read is here a number that
-- was answered and a portion that was left, and the promises say that there are reads of which all this holds; that they are those of the reader that
-- is lent is seen in the code of `read_portion`, and a program that reads nothing and takes its first read for a failure meets them too. Assumes nothing.
use Rattle.std.specs.Prelude.{ℕ, zero, suc, ◌≡◌, Bool, cond, List, [], ◌∷◌, ℤ, pos, negsuc, length, take}
use Rattle.track_input.specs.declared.Input.{Input}
use Rattle.track_input.specs.declared.Input.TheVariants.{Open, Ended, Failed}

-- what a format of file says of its reader: the reader and the cells after a portion more, and whether it is stopped
pub record Steps (A : Type 0) : Type 0 where
  pub reader_after : A → List ℕ → A
  pub cells_after : A → List ℕ → List ℕ → List ℕ
  pub is_stopped : A → Bool

-- 13.1, 13.2: the bytes that a read brought, which answered this and left this portion: none at the end of the input, and none where it
-- failed
abbrev pub bytes_read : ℤ → List ℕ → List ℕ
bytes_read (pos n) portion = take n portion
bytes_read (negsuc k) portion = []

-- 13.1, 13.2, 13.5, 13.62: the input after a read that answered this, with the reader that took its bytes: nothing more is to be read at the end
-- of the input, where the read failed, and where the reader is stopped
unfoldable pub input_with : {A : Type 0} → Steps A → ℤ → A → Input A
input_with steps (pos zero) reader = Ended reader
input_with steps (pos (suc n)) reader = cond (steps.is_stopped reader) (Ended reader) (Open reader)
input_with steps (negsuc k) reader = Failed

-- 13.1: the input after a read: its bytes are fed, once
unfoldable pub input_after : {A : Type 0} → Steps A → A → ℤ → List ℕ → Input A
input_after steps reader got portion = input_with steps got (steps.reader_after reader (bytes_read got portion))

-- a read: what it answered, and the portion that it left. The answer is at most the portion's length, by the contract of `read`, which
-- nothing here needs
pub record OneRead : Type 0 where
  pub got : ℤ
  pub portion : List ℕ

-- 13.1, 13.2: reads lead from one input to another: each is made where the input is open
pub data Leads {A : Type 0} (steps : Steps A) : Input A → List OneRead → Input A → Type 0 where
  none : {input : Input A} → Leads steps input [] input
  one : {reader : A} {read : OneRead} {reads : List OneRead} {last : Input A}
      → Leads steps (input_after steps reader read.got read.portion) reads last → Leads steps (Open reader) (read ∷ reads) last

-- 13.1: the portions that reads brought, in their order
unfoldable pub portions_of : List OneRead → List (List ℕ)
portions_of [] = []
portions_of (read ∷ reads) = bytes_read read.got read.portion ∷ portions_of reads

-- 13.1: the reads that are made from a reader on: none after the end or a failure, and none missing before it, unless 2^64 - 1 were made,
-- which no run does
pub record AllReads {A : Type 0} (steps : Steps A) (first : A) (reads : List OneRead) (last : Input A) : Type 0 where
  pub leads : Leads steps (Open first) reads last
  pub to_end : (reader : A) → last ≡ Open reader → length reads ≡ 18446744073709551615

-- 10.12, 18.9: the cells after portions, one after another. For the formats they are those of track_file and of flux_file (proofs/TrackFiles,
-- proofs/FluxFiles)
unfoldable pub cells_after_all : {A : Type 0} → Steps A → A → List (List ℕ) → List ℕ → List ℕ
cells_after_all steps reader [] buffer = buffer
cells_after_all steps reader (portion ∷ portions) buffer =
    cells_after_all steps (steps.reader_after reader portion) portions (steps.cells_after reader portion buffer)

-- 13.1: what reading leaves: there are reads that led from the first reader to this input, and the cells are those of their portions
pub record ReadThrough {A : Type 0} (steps : Steps A) (first : A) (before : List ℕ) (last : Input A) (after : List ℕ) : Type 0 where
  pub reads : List OneRead
  pub all : AllReads steps first reads last
  pub cells_are : after ≡ cells_after_all steps first (portions_of reads) before
