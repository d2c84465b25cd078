-- Section 9 of the specification, rule 9.17: what is printed of a block. The main property: it is the listing of a track with the cells
-- that the block's separation leaves, or the line with a refusal's number. Assumes nothing.
use Rattle.std.specs.Prelude.{ℕ, List, length, replicate}
use Rattle.block_cells.specs.BlockToCells.{block_separation, block_cells}
use Rattle.listing.specs.Listing.{listing_of}
use Rattle.lines.specs.Lines.{refused_line}
use Rattle.refusals.specs.RefusedCalls.{Answer}
use Rattle.refusals.specs.RefusedCalls.Answer.{gives, refused}

-- room for 131,072 cells, zeroed
unfoldable pub room_for_cells : List ℕ
room_for_cells = replicate 16384 0

-- 9.17, 11.4, 13.8: what is printed where a separation answers so and leaves these packed cells: the listing of a track with them at T and H,
-- or the refusal
unfoldable pub printed_cells : Answer ℕ → (cells : List ℕ) (T H : ℕ) → List ℕ
printed_cells (gives count) cells T H = listing_of cells count T H
printed_cells (refused number value) cells T H = refused_line number

-- 9.17, 13.7, 13.8: the listing of revolution k. Refusal 10 does not arise: more cells than the room holds are refused with 9
unfoldable pub block_listing : (block : List ℕ) (revolutions k T H : ℕ) → List ℕ
block_listing block revolutions k T H =
    printed_cells (block_separation block revolutions k (length room_for_cells)) (block_cells block revolutions k room_for_cells) T H
