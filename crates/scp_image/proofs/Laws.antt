-- What follows of the entries that are given and of the sum. Assumes nothing.
use Rattle.std.proofs.Common.{◌≡◌, ℕ, ◌+◌, ◌-◌, ◌*◌, ◌<◌, ◌≤◌, Bool, true, false, cond, None, ◌&&◌, ◌||◌, ltb, List, ◌++◌, sym, refl, ap, ◌∙◌, inl, inr, le_trans, lt_of_not-le, arith, ltb-false}
use native.Mathlib.Decide.{dec_le}
use Rattle.basis.proofs.Bools.{or_left, or_right}
use Rattle.basis.proofs.Search.{least-before}
use Rattle.refusals.specs.RefusedCalls.Answer.{gives}
use Rattle.scp_image.specs.Header.{revolutions_of, first_track, last_track, flags_of, heads_of, has_footer, place_below}
use Rattle.scp_image.specs.Entries.{start_of, is_there, blocks_end, limit_of, end_of, other_side, misplaced, bad_entry, first_bad}
use Rattle.scp_image.specs.CheckSum.{total, sum_after}
use Rattle.scp_image.specs.Laws.{Within, Apart, WellPlaced, Carried, AllSummed}
use Rattle.scp_image.specs.Laws.Carried.{none, more}
use Rattle.scp_image.proofs.Entries.{end-in-limit, ends-before, none-below}
use Rattle.scp_image.proofs.Sums.{total-append}

limit-within : (flags n : ℕ) → blocks_end flags n ≤ n
unfolding blocks_end
limit-within flags n = go (has_footer flags)
  where
    go : (x : Bool) → cond x (n - 48) n ≤ n
    go true = omega arith
    go false = omega arith

module _ (image : List ℕ) (n : ℕ) (none : 168 ≤ first_bad image (limit_of image n)) where
  within : (e : ℕ) → e < 168 → is_there image e ≡ true → Within image n e
  unfolding misplaced
  within e h there =
      let limit = limit_of image n in
      let start = start_of image e in
      let good : bad_entry image limit e ≡ false = least-before (bad_entry image limit) 168 0 e (omega arith) (omega arith) in
      let a = ltb e (first_track image) in
      let b = ltb (last_track image) e in
      let c = other_side (heads_of image) e in
      let d = ltb start 688 in
      let f = ltb (end_of image limit e) (start + (4 + 12 * revolutions_of image)) in
      let all : (a || (b || (c || (d || f)))) ≡ false = sym (ap (λ (x : Bool). x && (a || (b || (c || (d || f))))) there) ∙ good in
      let rest = or_right c (d || f) (or_right b (c || (d || f)) (or_right a (b || (c || (d || f))) all)) in
      record {
        behind_entries = ltb-false _ _ (or_left d f rest);
        has_room = ltb-false _ _ (or_right d f rest);
        in_image = le_trans (end-in-limit image limit e 168) (limit-within (flags_of image) n);
      }

  apart : (e f : ℕ) → e < 168 → f < 168 → (e ≡ f → ⊥) → Apart image n e f
  apart e f h k d = go (dec_le (start_of image e) (start_of image f))
    where
      go : Dec (start_of image e ≤ start_of image f) → Apart image n e f
      go (yes l) = inl (ends-before image (limit_of image n) e 168 f k (λ q. d (sym q)) l)
      go (no l) = let m = lt_of_not-le l in inr (ends-before image (limit_of image n) f 168 e h d (omega arith))

  -- 19.12: where no entry is bad, each block is within the image, and any two are apart
  pub well-placed : (tracks : ℕ) → WellPlaced image n (gives tracks)
  well-placed tracks = (within, λ e f h k d there also. apart e f h k d)

-- the same from what the search for a bad entry found, in a head that is the image's
pub placed : {image head : List ℕ} {n m : ℕ} → head ≡ image → m ≡ n → None ≡ place_below 168 (first_bad head (limit_of head m)) → (tracks : ℕ)
    → WellPlaced image n (gives tracks)
placed {head = head} {m = m} h l found tracks =
    rw (← h, ← l) (well-placed head m (none-below 168 (first_bad head (limit_of head m)) found) tracks)

-- two portions, one after the other
sum-of-two : (sum : ℕ) (first second : List ℕ) → sum_after (sum_after sum first) second ≡ sum_after sum (first ++ second)
sum-of-two sum first second = let e = total-append first second in omega arith

sum-of-all : {sum : ℕ} {bytes : List ℕ} → Carried sum bytes → sum ≡ sum_after 0 bytes
unfolding total
sum-of-all none = refl
sum-of-all (more {sum} {bytes} portion before) = ap (λ (s : ℕ). sum_after s portion) (sum-of-all before) ∙ sum-of-two 0 bytes portion

-- 19.15: however the bytes are cut, the sum is that of all of them
pub all-portions : {after : ℕ} (sum : ℕ) (portion : List ℕ) → after ≡ sum_after sum portion → AllSummed sum portion after
all-portions sum portion e before calls = e ∙ ap (λ (s : ℕ). sum_after s portion) (sum-of-all calls) ∙ sum-of-two 0 before portion
