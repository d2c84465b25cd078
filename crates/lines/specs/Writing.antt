-- Section 11 of the specification, rule 11.9: bytes written one after the other to a lent buffer, which is what the functions promise that
-- write from a place on. Assumes nothing.
use Rattle.std.specs.Prelude.{ℕ, ◌+◌, ◌≤◌, ◌≡◌, List, length}
use Rattle.std.proofs.lemmas.List.Edits.{sets}

-- 11.9: the bytes `made`, at most `most` of them, written to a buffer from place `at` on, as far as there is room, and the place after them
pub record Wrote (before : List ℕ) (at : ℕ) (made : List ℕ) (most : ℕ) (after : List ℕ) (next : ℕ) : Type 0 where
  pub bytes : after ≡ sets before at made
  pub place : next ≡ at + length made
  pub few : length made ≤ most
