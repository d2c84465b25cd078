-- Section 13 of the specification, rules 13.9 and 13.10: the arguments of scp_track. The contracts of the system's calls do not say which
-- words a process was started with: that those here are its own, the first in the first room and so on, is seen in the code of
-- `read_choice` and `main`. Assumes nothing.
use Rattle.std.specs.Prelude.{ℕ, ◌≡◌, List, take}
use Rattle.block_choice.specs.Arguments.{Choice, choice_of}

-- 13.9, 13.10: there are a number of words and the lengths of four, which stand at the front of these rooms, and the choice is theirs
pub record ChoiceRead (choice : Choice) (first second third fourth : List ℕ) : Type 0 where
  pub words : ℕ
  pub a : ℕ
  pub b : ℕ
  pub c : ℕ
  pub d : ℕ
  pub choice_is : choice ≡ choice_of words (take a first) (take b second) (take c third) (take d fourth)
