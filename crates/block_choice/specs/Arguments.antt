-- Section 13 of the specification, rules 13.9 and 13.10: the arguments of scp_track: four numbers from 0 to 255, in decimal digits. The
-- main property: `choice_of`, the choice that the words make, or none. Assumes nothing.
use Rattle.std.specs.Prelude.{ℕ, ◌+◌, ◌-◌, ◌*◌, Bool, true, false, cond, ◌&&◌, List, [], ◌∷◌, Option, Some, None, eqb, leb, ltb}
use Rattle.block_choice.specs.declared.Choice.{Choice as Chosen}

-- 13.9: one argument: a number from 0 to 255, or anything else
pub data Argument : Type 0 where
  Byte : ℕ → Argument
  Other : Argument

-- 13.9, 13.10: what is to be listed of a block, where the arguments are right
pub record Choice : Type 0 where
  pub right : Bool
  pub revolutions : ℕ
  pub revolution : ℕ
  pub track : ℕ
  pub side : ℕ

-- 13.9: the digits 0 to 9 are the bytes 48 to 57
abbrev pub is_digit : ℕ → Bool
is_digit byte = leb 48 byte && leb byte 57

-- 13.9: a number with a digit more
abbrev pub with_digit : ℕ → ℕ → ℕ
with_digit n byte = 10 * n + (byte - 48)

-- 13.9: the rest of a word, after digits that make n: all are digits, and the number stays below 256. Zeros may lead
unfoldable pub argument_from : ℕ → List ℕ → Argument
argument_from n [] = Byte n
argument_from n (byte ∷ word) = cond (is_digit byte) (cond (ltb (with_digit n byte) 256) (argument_from (with_digit n byte) word) Other) Other

-- 13.9: a word: one digit at least
unfoldable pub argument_of : List ℕ → Argument
argument_of [] = Other
argument_of (byte ∷ word) = argument_from 0 (byte ∷ word)

-- 13.10: the words are not such numbers: nothing is listed
abbrev pub no_choice : Choice
no_choice = record { right = false; revolutions = 0; revolution = 0; track = 0; side = 0 }

-- 13.9, 13.10: REVOLUTIONS, REVOLUTION, TRACK and SIDE, in this order; each has to be such a number
unfoldable pub chosen : (revolutions revolution track side : Argument) → Choice
chosen (Byte revolutions) (Byte revolution) (Byte track) (Byte side) =
    record { right = true; revolutions = revolutions; revolution = revolution; track = track; side = side }
chosen (Byte revolutions) (Byte revolution) (Byte track) Other = no_choice
chosen (Byte revolutions) (Byte revolution) Other side = no_choice
chosen (Byte revolutions) Other track side = no_choice
chosen Other revolution track side = no_choice

-- 13.9, 13.10: the choice that four words make, where the program was started with so many, its own name among them
unfoldable pub choice_of : ℕ → (first second third fourth : List ℕ) → Choice
choice_of words first second third fourth =
    cond (eqb words 5) (chosen (argument_of first) (argument_of second) (argument_of third) (argument_of fourth)) no_choice

-- an argument and a choice of the code, as the rules have them
abbrev pub argument_seen : Option ℕ → Argument
argument_seen (Some byte) = Byte byte
argument_seen None = Other

abbrev pub choice_seen : Option Chosen → Choice
choice_seen (Some choice) =
    record { right = true; revolutions = choice.revolutions; revolution = choice.revolution; track = choice.track; side = choice.side }
choice_seen None = no_choice
