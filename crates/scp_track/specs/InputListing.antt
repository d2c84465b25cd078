-- Section 13 of the specification, rules 13.2, 13.7 and 13.11: what scp_track writes of its input. The main property: the listing of a
-- block that was read to its end, and of no other (`ListedBlock`). Assumes nothing.
use Rattle.std.specs.Prelude.{ℕ, ◌≡◌, Bool, cond, List, [], length}
use Rattle.block_listing.specs.BlockListing.{block_listing}
use Rattle.lines.specs.Lines.{out_after}
use Rattle.scp_track.specs.InputRead.{InputRead}

-- 13.2, 13.7, 13.11: what is to be written of an input of which these bytes were read: where it ended there the listing, and else nothing
unfoldable pub input_listing : Bool → (block : List ℕ) (revolutions k T H : ℕ) → List ℕ
input_listing ended block revolutions k T H = cond ended (block_listing block revolutions k T H) []

-- 13.1, 13.7: an input was read, from `front` on, and what is to be written of it stands at the front of `out`; the answer is the number of
-- its bytes
pub record ListedBlock (longest : ℕ) (front : List ℕ) (revolutions k T H : ℕ) (before : List ℕ) (answer : ℕ) (out : List ℕ) : Type 0 where
  pub block : List ℕ
  pub ended : Bool
  pub read : InputRead longest front ended block
  pub answer_is : answer ≡ length (input_listing ended block revolutions k T H)
  pub out_is : out ≡ out_after (input_listing ended block revolutions k T H) before
