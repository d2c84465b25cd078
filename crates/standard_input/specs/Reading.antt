-- Section 13 of the specification, rules 13.1 and 13.2: what reads of an input bring. Of an input such as the system's a
-- contract says how many bytes a read may put at the start of a room, and not which. So a read is here a number that was answered and a room that
-- was left, and the promises say that there are reads of which all this holds; that they are those of the reader that is lent is seen in the code
-- of `read_once`, and a program that makes them up meets the promises too. Assumes nothing.
use Rattle.std.specs.Prelude.{ℕ, zero, suc, ◌<◌, ◌≤◌, ◌≡◌, Bool, true, false, List, [], ◌++◌, ℤ, pos, negsuc, length, take}

-- 13.1, 13.2: the bytes that a read brought, which answered this and left this room: none at the end of the input, and none where it failed
abbrev pub bytes_read : ℤ → List ℕ → List ℕ
bytes_read (pos n) room = take n room
bytes_read (negsuc k) room = []

-- 13.1, 13.2: the input is at its end: the read answered 0. A read that failed says nothing of an end
unfoldable pub is_end : ℤ → Bool
is_end (pos zero) = true
is_end (pos (suc n)) = false
is_end (negsuc k) = false

-- 13.1: reads one after another, each of which brought bytes: from the bytes `front`, which were read before, to these
pub data Brought (front : List ℕ) : List ℕ → Type 0 where
  none : Brought front front
  more : {bytes : List ℕ} (got : ℤ) (room : List ℕ) → Brought front bytes → 0 < length (bytes_read got room) → Brought front (bytes ++ bytes_read got room)

-- 13.1: one read, that answered some number and left this room
pub record TakenRead (room : List ℕ) (count : ℕ) (ended : Bool) : Type 0 where
  pub got : ℤ
  pub count_is : count ≡ length (bytes_read got room)
  pub ended_is : ended ≡ is_end got

-- the same of a room that is not kept
pub record SomeRead (count : ℕ) (ended : Bool) : Type 0 where
  pub room : List ℕ
  pub taken : TakenRead room count ended

-- 13.1, 13.2: reads as far as a room reaches, from the bytes `front` on, which stand in it: so many bytes are read, and where the room is
-- not full, a read brought nothing. Where it is full, no read was made behind it, so that no end is told of
pub record ReadOn (front room : List ℕ) (count : ℕ) (ended : Bool) : Type 0 where
  pub within : count ≤ length room
  pub brought : Brought front (take count room)
  pub stopped : count < length room → SomeRead 0 ended
  pub filled : length room ≤ count → ended ≡ false
