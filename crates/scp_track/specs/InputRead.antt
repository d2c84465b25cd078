-- Section 13 of the specification, rules 13.1, 13.2 and 13.11: what scp_track reads. The main property: it is read to the input's end, to a
-- failure, or past the longest room. Assumes nothing.
use Rattle.std.specs.Prelude.{ℕ, ◌<◌, ◌≡◌, Bool, false, List, [], ℤ, length}
use Rattle.standard_input.specs.Reading.{bytes_read, is_end, Brought}

-- 13.1, 13.2, 13.11: the input is read, from `front` on: up to a read that brought nothing, and it ended there where that read answered 0;
-- or to more bytes than the longest room holds, which is 4,194,304 in the program, and then it did not end
pub data InputRead (longest : ℕ) (front : List ℕ) : Bool → List ℕ → Type 0 where
  stops : {bytes : List ℕ} → Brought front bytes → (got : ℤ) (room : List ℕ) → bytes_read got room ≡ [] → InputRead longest front (is_end got) bytes
  goes_on : {bytes : List ℕ} → Brought front bytes → longest < length bytes → InputRead longest front false bytes
