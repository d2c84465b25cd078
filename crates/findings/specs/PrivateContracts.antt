-- What the contracts of private functions need. Assumes nothing.
use Rattle.std.specs.Prelude.{ℕ, ◌+◌, ◌*◌, ◌%◌, ◌≤◌, ◌≡◌, List, length, get_or, take}
use Rattle.finding_list.specs.Calls.{numbers_of}
use Rattle.finding_list.specs.declared.Finding.{Finding}

-- finding i of those that stand in a list of numbers
unfoldable pub finding_at : List ℕ → ℕ → Finding
finding_at numbers i =
    record {
      kind = get_or numbers (4 * i) 0 % 256;
      level = get_or numbers (4 * i + 1) 0 % 256;
      place = get_or numbers (4 * i + 2) 0;
      detail = get_or numbers (4 * i + 3) 0;
    }

-- the numbers of `count` findings, which are all, at the front of a list of numbers; there is room for them
pub record Numbered (numbers : List ℕ) (count room : ℕ) (findings : List Finding) : Type 0 where
  pub all : count ≡ length findings
  pub front : take (4 * count) numbers ≡ numbers_of findings
  pub few : count ≤ 901
  pub fits : count ≤ room
