-- Section 13 of the specification, rules 13.52 and 13.53: the arguments of write_track, which are read as scp_track reads its last two. The
-- contracts of the system's calls do not say which words a process was started with: that those here are its own is seen in the code of
-- `read_place` and `main`. Assumes nothing.
use Rattle.std.specs.Prelude.{ℕ, ◌≡◌, cond, List, eqb, take}
use Rattle.block_choice.specs.Arguments.{Choice, argument_of, no_choice, chosen}
use Rattle.block_choice.specs.Arguments.Argument.{Byte}

-- 13.9, 13.52, 13.53: the place that two words name, where the program was started with so many, its own name among them: TRACK and SIDE, in this
-- order. Of a choice only these two count here, and whether the words are such numbers
unfoldable pub place_of : ℕ → (first second : List ℕ) → Choice
place_of words first second = cond (eqb words 3) (chosen (Byte 0) (Byte 0) (argument_of first) (argument_of second)) no_choice

-- 13.52, 13.53: there are a number of words and the lengths of two, which stand at the front of these rooms, and the place is theirs
pub record PlaceRead (place : Choice) (first second : List ℕ) : Type 0 where
  pub words : ℕ
  pub a : ℕ
  pub b : ℕ
  pub place_is : place ≡ place_of words (take a first) (take b second)
