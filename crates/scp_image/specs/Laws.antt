-- Section 19 of the specification, rules 19.12 and 19.15: what follows of the entries that are given and of the sum. n is the length of the whole image.
-- Assumes nothing.
use Rattle.std.specs.Prelude.{◌≡◌, ℕ, ◌+◌, ◌*◌, ◌<◌, ◌≤◌, true, ◌⊎◌, List, [], ◌++◌, ◌≢◌}
use Rattle.refusals.specs.RefusedCalls.{Answer}
use Rattle.refusals.specs.RefusedCalls.Answer.{gives, refused}
use Rattle.scp_image.specs.Header.{revolutions_of}
use Rattle.scp_image.specs.Entries.{start_of, is_there, limit_of, end_of}
use Rattle.scp_image.specs.CheckSum.{sum_after}

-- 19.12: a block lies behind the first 688 bytes and within the image, and has room for its letters, its number and its table
pub record Within (image : List ℕ) (n e : ℕ) : Type 0 where
  pub behind_entries : 688 ≤ start_of image e
  pub has_room : start_of image e + (4 + 12 * revolutions_of image) ≤ end_of image (limit_of image n) e
  pub in_image : end_of image (limit_of image n) e ≤ n

-- 19.12: one of two blocks ends before the other begins
abbrev pub Apart : (image : List ℕ) (n e f : ℕ) → Type 0
Apart image n e f = (end_of image (limit_of image n) e ≤ start_of image f) ⊎ (end_of image (limit_of image n) f ≤ start_of image e)

-- 19.12: where the call on the entries is accepted, each block is within the image, and any two are apart
abbrev pub WellPlaced : (image : List ℕ) (n : ℕ) → Answer ℕ → Type 0
WellPlaced image n (gives tracks) =
    ((e : ℕ) → e < 168 → is_there image e ≡ true → Within image n e)
    × ((e f : ℕ) → e < 168 → f < 168 → (e ≢ f) → is_there image e ≡ true → is_there image f ≡ true → Apart image n e f)
WellPlaced image n (refused number value) = Unit

-- 19.15: sums that calls have left, one after another from 0 on, and all bytes that were handed over
pub data Carried : ℕ → List ℕ → Type 0 where
  none : Carried 0 []
  more : {sum : ℕ} {bytes : List ℕ} (portion : List ℕ) → Carried sum bytes → Carried (sum_after sum portion) (bytes ++ portion)

-- 19.15: after any such calls, the sum that a portion more leaves is that of all bytes, those before it and its own
abbrev pub AllSummed : (sum : ℕ) → List ℕ → ℕ → Type 0
AllSummed sum portion after = (before : List ℕ) → Carried sum before → after ≡ sum_after 0 (before ++ portion)
