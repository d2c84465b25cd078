-- How many bytes of a room a read fills. Assumes nothing.
use Rattle.std.specs.Prelude.{◌≡◌, ℕ, ◌≤◌, min, ℤ, pos, negsuc, Option, Some, None}

-- what a read of a room of so many bytes may answer: how many bytes it put there, or -1 where it failed
abbrev pub ReadAnswers : ℕ → ℤ → Type 0
ReadAnswers room (pos count) = count ≤ room
ReadAnswers room (negsuc k) = k ≡ 0

-- the bytes at the front of a room that an answer speaks of: none where it is below 0, and the whole room where it is above that
abbrev pub count_in : ℤ → ℕ → ℕ
count_in (pos count) room = min count room
count_in (negsuc k) room = 0

-- how many bytes a program writes that may have none to write
abbrev pub written_count : Option ℕ → ℕ
written_count (Some count) = count
written_count None = 0
