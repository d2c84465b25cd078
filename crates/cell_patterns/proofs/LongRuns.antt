-- The runs of 64 zeros or more, gone through from one to the next, and tracks that have none of 127. Assumes nothing.
use Prim.Native.Nat.{ℕ, ◌+◌, ◌-◌, ◌*◌, ◌/◌, ◌^◌, ◌<◌, ◌≤◌, min}
use mathlib.Core.Path.{◌≡◌, refl, sym, ap, ◌∙◌}
use mathlib.Core.Bool.{Bool, true, false, cond}
use mathlib.Core.List.{List}
use native.Mathlib.Decide.{dec_le}
use native.Mathlib.Nat.{lt_of_not-le}
use native.Mathlib.Omega.{arith}
use borrow.Author.Tests.{le-leb, lt-leb, leb-false, ltb-true, ltb-false}
use lib.Count.{count_leading_zeros, leading_top}
use lib.Dec.{ltb, leb}
use lib.ListN.{get_or}
use Rattle.basis.specs.Search.{least}
use Rattle.basis.proofs.Search.{least-low, least-high, least-before, least-found, least-longer, least-le, least-same, least-round, most-above}
use Rattle.cell_words.specs.Words.{mask, Holds}
use Rattle.cell_words.specs.Tests.{one_at, like_at, both_at}
use Rattle.cell_words.proofs.Ranges.{least-min, least-misses}
use Rattle.cell_words.proofs.Words.{mask_lt, leading-mask, holds_at}
use Rattle.cell_patterns.specs.Cells.{is_one, zeros_from, longest_run, longest_start, LongRun}
use Rattle.cell_patterns.proofs.Levels.{Level, level-one, level-more, least-is, longest-is, most-below, one_same}
use Rattle.cell_patterns.proofs.Runs.{zeros-few}

one-round : (f : ℕ → ℕ) (n : ℕ) → ((q : ℕ) → f (q + n) ≡ f q) → (q : ℕ) → is_one f (q + n) ≡ is_one f q
unfolding is_one
one-round f n round q = rw (round q)

-- the zeros from p on, as the code counts them: up to a one before the track's end, or over the index
module _ (f : ℕ → ℕ) (n p : ℕ) (h : p < n) where
  ones-same : (k q : ℕ) → least (one_at f) k q ≡ least (is_one f) k q
  ones-same k q = least-same (one_at f) (is_one f) (one_same f) k q

  pub zeros-before-end : (end : ℕ) → end ≡ least (one_at f) (n - p) p → end < n → end - p ≡ zeros_from f n p
  unfolding zeros_from
  zeros-before-end end e l =
      let g = e ∙ ones-same (n - p) p in
      omega (arith, least-longer (is_one f) (n - p) n p (omega arith) (omega arith))

  pub zeros-over-index : ((q : ℕ) → f (q + n) ≡ f q) → (end first z : ℕ) → end ≡ least (one_at f) (n - p) p → n ≤ end → first ≡ least (one_at f) n 0 → z ≡ min first p
      → n - p + z ≡ zeros_from f n p
  unfolding zeros_from
  zeros-over-index round end first z e l g d =
      let t = is_one f in
      let k : p + (n - p) ≡ n = omega arith in
      let a : p + n - p ≡ n = omega arith in
      let b : p + n - n ≡ p = omega arith in
      let i = g ∙ ones-same n 0 in
      let m : least t (n - p) p ≡ p + (n - p) = omega (arith, e ∙ ones-same (n - p) p, least-high t (n - p) p) in
      let s : least t n p ≡ least t p n = rw (k, a, b) at (least-misses t (n - p) p (p + n) m (omega arith)) in
      let z0 : 0 + n ≡ n = omega arith in
      let r : least t p n ≡ least t p 0 + n = rw z0 at (least-round t n (one-round f n round) p 0) in
      let c = least-min t p n 0 (omega arith) in
      omega arith

module _ (f : ℕ → ℕ) (n : ℕ) where
  one_after : (p : ℕ) → zeros_from f n p < n → is_one f (p + zeros_from f n p) ≡ true
  unfolding zeros_from
  one_after p h =
      let l = least-low (is_one f) n p in
      let e : p + (least (is_one f) n p - p) ≡ least (is_one f) n p = omega arith in
      rw e (least-found (is_one f) n p (omega arith))

  zeros_by : (p q : ℕ) → p ≤ q → is_one f q ≡ true → zeros_from f n p ≤ q - p
  unfolding zeros_from
  zeros_by p q h e = omega (arith, least-le (is_one f) n p q h e)

  -- within a run the zeros become fewer
  zeros_within : (p q : ℕ) → p ≤ q → q ≤ p + zeros_from f n p → zeros_from f n q ≤ zeros_from f n p
  zeros_within p q h l = go (dec_le n (zeros_from f n p))
    where
      go : Dec (n ≤ zeros_from f n p) → zeros_from f n q ≤ zeros_from f n p
      go (yes g) = omega (arith, zeros-few f n q)
      go (no g) = omega (arith, zeros_by q (p + zeros_from f n p) l (one_after p (lt_of_not-le g)))

-- the longest run among the places before p, where it has more than 63 zeros
pub record LongestBefore (f : ℕ → ℕ) (n p longest start : ℕ) : Type 0 where
  pub most : (q : ℕ) → q < p → q < n → zeros_from f n q ≤ longest
  pub long : 63 ≤ longest
  pub inside : (start ≤ n) × (longest ≤ n)
  pub found : 63 < longest → (start < n) × (zeros_from f n start ≡ longest) × ((q : ℕ) → q < start → zeros_from f n q < longest)

-- 64 zeros or more stand from q on
abbrev pub long_at : (ℕ → ℕ) → ℕ → ℕ → Bool
long_at f n q = leb 64 (zeros_from f n q)

module _ (f : ℕ → ℕ) (n : ℕ) where
  short : (q : ℕ) → long_at f n q ≡ false → zeros_from f n q ≤ 63
  short q e = omega (arith, leb-false 64 (zeros_from f n q) e)

  pub longest-first : (p : ℕ) → 128 ≤ n → p ≡ least (long_at f n) n 0 → LongestBefore f n p 63 0
  longest-first p h e =
      record {
        most = λ q l g. short q (least-before (long_at f n) n 0 q (omega arith) (omega arith));
        long = omega arith;
        inside = (omega arith, omega arith);
        found = λ g. absurd (omega arith);
      }

  -- one run more
  pub longest-next : (p p' zeros longest start : ℕ) (b : Bool) → p < n → zeros ≡ zeros_from f n p → p' ≡ least (long_at f n) (n - (p + zeros + 1)) (p + zeros + 1) → b ≡ ltb longest zeros
      → LongestBefore f n p longest start → LongestBefore f n p' (cond b zeros longest) (cond b p start)
  longest-next p p' zeros longest start b h z e eb o = go b eb
    where
      -- places before p, of the run, and those after it that have few zeros
      all : (m : ℕ) → longest ≤ m → zeros ≤ m → (q : ℕ) → q < p' → q < n → zeros_from f n q ≤ m
      all m low up q l g = before (dec_le p q) (dec_le (p + zeros + 1) q)
        where
          before : Dec (p ≤ q) → Dec (p + zeros + 1 ≤ q) → zeros_from f n q ≤ m
          before (no a) d = omega (arith, o.most q (lt_of_not-le a) g)
          before (yes a) (no d) =
              let i = lt_of_not-le d in
              let j : q ≤ p + zeros_from f n p = omega arith in
              omega (arith, zeros_within f n p q a j)
          before (yes a) (yes d) = omega (arith, short q (least-before (long_at f n) (n - (p + zeros + 1)) (p + zeros + 1) q d (omega arith)), o.long)

      go : (b : Bool) → b ≡ ltb longest zeros → LongestBefore f n p' (cond b zeros longest) (cond b p start)
      go true c =
          let l = ltb-true longest zeros (sym c) in
          record {
            most = all zeros (omega arith) (omega arith);
            long = omega (arith, o.long);
            inside = (omega arith, omega (arith, zeros-few f n p));
            found = λ g. (h, sym z, λ q d. omega (arith, o.most q d (omega arith)));
          }
      go false c = record { most = all longest (omega arith) (ltb-false longest zeros (sym c)); long = o.long; inside = o.inside; found = o.found }

  all-below : (longest : ℕ) → ((q : ℕ) → q < n → zeros_from f n q ≤ longest) → longest_run f n ≤ longest
  unfolding longest_run
  all-below longest h = most-below (zeros_from f n) longest n 0 (λ q l. h q (omega arith))

  one-above : (q : ℕ) → q < n → zeros_from f n q ≤ longest_run f n
  unfolding longest_run
  one-above q h = most-above (zeros_from f n) n 0 q (omega arith) (omega arith)

  pub longest-last : (p longest start : ℕ) → n ≤ p → LongestBefore f n p longest start → LongRun f n start longest
  longest-last p longest start h o =
      record {
        long = λ l. exact (o.found (omega (arith, below)));
        short = λ l. go (dec_le longest 63) l;
        start_few = o.inside.0;
        longest_few = o.inside.1;
      }
    where
      below : longest_run f n ≤ longest
      below = all-below longest (λ q g. o.most q (omega arith) g)

      exact : (start < n) × (zeros_from f n start ≡ longest) × ((q : ℕ) → q < start → zeros_from f n q < longest) → (start ≡ longest_start f n) × (longest ≡ longest_run f n)
      exact s =
          longest-is f n longest start (λ q. leb longest (zeros_from f n q)) (λ q. refl)
          (least-is (λ q. leb longest (zeros_from f n q)) n start s.0 (le-leb longest (zeros_from f n start) (omega (arith, s.1)))
          (λ q g. lt-leb longest (zeros_from f n q) (s.2 q g)))
          s.0
          (λ q g. omega (arith, o.most q (omega arith) g))

      go : Dec (longest ≤ 63) → longest_run f n < 1000 → longest < 1000
      go (yes d) l = omega arith
      go (no d) l = let s = o.found (lt_of_not-le d) in omega (arith, s.1, one-above start s.0)

-- a word that is not 0 has a one
one-in-word : (f : ℕ → ℕ) (p x : ℕ) → x ≡ mask (one_at f) 64 p → (x ≡ 0 → ⊥) → least (one_at f) 64 p < p + 64
one-in-word f p x e some =
    let l : x < 2 ^ 64 = rw e (mask_lt (one_at f) 64 p) in
    let top = leading_top 64 x (omega arith) l in
    let m : p + count_leading_zeros 64 x ≡ least (one_at f) 64 p = ap (λ (y : ℕ). p + count_leading_zeros 64 y) e ∙ leading-mask (one_at f) 64 p in
    omega (arith, top.1)

module _ (f : ℕ → ℕ) (n : ℕ) (words : List ℕ) (held : Holds (one_at f) words (n / 64 + 2)) (some : (w : ℕ) → w < n / 64 + 2 → get_or words w 0 ≡ 0 → ⊥) where
  zeros-in-way : (q : ℕ) → q < n → zeros_from f n q ≤ 126
  zeros-in-way q h =
      let w = (q + 63) / 64 in
      let l = one-in-word f (64 * w) _ (holds_at (one_at f) words (n / 64 + 2) w held (omega arith)) (some w (omega arith)) in
      let a = least (one_at f) 64 (64 * w) in
      let low = least-low (one_at f) 64 (64 * w) in
      let one = sym (one_same f a) ∙ least-found (one_at f) 64 (64 * w) l in
      omega (arith, zeros_by f n q a (omega arith) one)

  pub no-long-run : LongRun f n 0 0
  no-long-run =
      record {
        long = λ l. absurd (omega (arith, all-below f n 126 zeros-in-way));
        short = λ l. omega arith;
        start_few = omega arith;
        longest_few = omega arith;
      }

-- the places with 64 zeros, by doubling
pub long-level : (f : ℕ → ℕ) (n : ℕ) → 128 ≤ n → Level f n 64 (both_at 32 (both_at 16 (both_at 8 (both_at 4 (both_at 2 (both_at 1 (like_at false (one_at f))))))))
long-level f n h =
    let t1 = like_at false (one_at f) in
    let t2 = both_at 1 t1 in
    let t4 = both_at 2 t2 in
    let t8 = both_at 4 t4 in
    let t16 = both_at 8 t8 in
    let t32 = both_at 16 t16 in
    let l2 = level-more f n 1 1 t1 (level-one f n (omega arith)) (omega arith) (omega arith) in
    let l4 = level-more f n 2 2 t2 l2 (omega arith) (omega arith) in
    let l8 = level-more f n 4 4 t4 l4 (omega arith) (omega arith) in
    let l16 = level-more f n 8 8 t8 l8 (omega arith) (omega arith) in
    let l32 = level-more f n 16 16 t16 l16 (omega arith) (omega arith) in
    level-more f n 32 32 t32 l32 (omega arith) (omega arith)
