-- What the code writes of a block is its listing. Assumes nothing.
use Prim.Native.Nat.{ℕ, ◌≤◌, ◌<◌}
use mathlib.Core.Path.{◌≡◌, sym, ◌∙◌, ap}
use mathlib.Core.List.{List}
use native.Mathlib.Omega.{arith}
use lib.ListN.{length}
use Rattle.std.specs.Prelude.{Result, Ok, Err}
use Rattle.listing.specs.Listing.{listing_of}
use Rattle.lines.specs.Lines.{refused_line, out_after}
use Rattle.lines.proofs.Lengths.{refused-few, some_refused}
use Rattle.listing.proofs.Laws.{some_listed}
use Rattle.refusals.specs.RefusedCalls.{Answer, refused_with, answer_of, number_of}
use Rattle.refusals.specs.RefusedCalls.Answer.{gives, refused}
use Rattle.refusals.specs.declared.Refusal.{Refusal}
use Rattle.block_cells.specs.BlockToCells.{block_separation, block_cells}
use Rattle.block_listing.specs.BlockListing.{room_for_cells, printed_cells, block_listing}

module _ (block : List ℕ) (revolutions k T H : ℕ) where
  -- what the code writes: the cells' listing, or the line of a refusal
  abbrev pub Written : List ℕ → ℕ → List ℕ → Type 0
  Written before r after =
      record {
        answer : r ≡ length (block_listing block revolutions k T H);
        few : r ≤ 65536;
        out : after ≡ out_after (block_listing block revolutions k T H) before;
      }

  module _ {room : List ℕ} (room-is : room ≡ room_for_cells) where
    listing-is : (answer : Answer ℕ) (cells : List ℕ) → answer ≡ block_separation block revolutions k (length room) → cells ≡ block_cells block revolutions k room
        → block_listing block revolutions k T H ≡ printed_cells answer cells T H
    unfolding block_listing
    listing-is answer cells is left =
        sym (ap (λ (x : Answer ℕ). printed_cells x cells T H) (is ∙ ap (λ (b : List ℕ). block_separation block revolutions k (length b)) room-is)
        ∙ ap (λ (b : List ℕ). printed_cells (block_separation block revolutions k (length room_for_cells)) b T H) (left ∙ ap (block_cells block revolutions k) room-is))

    -- the cells are counted
    pub cells-written : {separated : Result ℕ Refusal} {count : ℕ} → separated ≡ Ok count → answer_of separated ≡ block_separation block revolutions k (length room)
        → {cells : List ℕ} → cells ≡ block_cells block revolutions k room → (before : List ℕ) {after : List ℕ} {r : ℕ} → r ≡ length (listing_of cells count T H)
        → r ≤ 65536 → after ≡ out_after (listing_of cells count T H) before → Written before r after
    unfolding printed_cells
    cells-written {count = count} e is {cells} left before n few w =
        let l : block_listing block revolutions k T H ≡ listing_of cells count T H = listing-is (gives count) cells (ap answer_of (sym e) ∙ is) left in
        record { answer = rw l n; few = few; out = rw l w }

    pub refusal-written : {separated : Result ℕ Refusal} {refusal : Refusal} → separated ≡ Err refusal
        → answer_of separated ≡ block_separation block revolutions k (length room) → {cells : List ℕ} → cells ≡ block_cells block revolutions k room
        → {number : ℕ} → number ≡ number_of refusal → number < 0x1_0000_0000 → (before : List ℕ) {after : List ℕ} {r : ℕ} → r ≡ length (refused_line number)
        → after ≡ out_after (refused_line number) before → Written before r after
    unfolding printed_cells
    refusal-written {separated} {refusal} e is {cells} left {number} n fits before a w =
        let l : block_listing block revolutions k T H ≡ refused_line number
        = listing-is (refused_with refusal) cells (ap answer_of (sym e) ∙ is) left ∙ ap refused_line (sym n) in
        record { answer = rw l a; few = omega (arith, a, refused-few number fits); out = rw l w }

-- no listing is empty
pub some_listed_block : (block : List ℕ) (revolutions k T H : ℕ) {n : ℕ} → n ≡ length (block_listing block revolutions k T H) → 0 < n
unfolding block_listing printed_cells
some_listed_block block revolutions k T H e =
    omega (arith, e, go (block_separation block revolutions k (length room_for_cells)) (block_cells block revolutions k room_for_cells))
  where
    go : (answer : Answer ℕ) (cells : List ℕ) → 0 < length (printed_cells answer cells T H)
    go (gives count) cells = some_listed cells count T H
    go (refused number value) cells = some_refused number
