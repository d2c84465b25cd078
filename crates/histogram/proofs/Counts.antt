-- Laws of the counts: a loop that counts one timing a turn makes them, and they add up to the number of timings (`counts-sum`).
-- Assumes nothing.
use Prim.Native.Nat.{ℕ, zero, suc, ◌+◌, ◌≤◌, ◌<◌}
use mathlib.Core.Path.{◌≡◌, refl, sym}
use mathlib.Core.Bool.{Bool, true, false, cond}
use mathlib.Core.List.{List, [], ◌∷◌, ◌++◌}
use native.Mathlib.Nat.{zero-add}
use native.Mathlib.Numerals.{add-one}
use native.Mathlib.Decide.{ℕ_discrete}
use native.Mathlib.Omega.{arith}
use borrow.Author.Tests.{eq-eqb, ne_eqb}
use lib.Dec.{eqb}
use lib.ListN.{length, get_or, set, drop, replicate, get_or-replicate, drop_of_length-le}
use lib.Seq.{drop-cons, get_or-set_same, get_or-set_other}
use Rattle.basis.specs.Lists.{listed}
use Rattle.basis.proofs.Lists.{is-listed}
use Rattle.refusals.specs.RefusedCalls.Answer.{gives, refused}
use Rattle.flux_timings.specs.Timings.{timings_judged}
use Rattle.flux_timings.proofs.Judging.{judged_refused, judged_good}
use Rattle.histogram.specs.Histogram.{bin_of, count_of, counts_of, sum_of, counting, counts_after, sum_after}

bin-lt : (t : ℕ) → bin_of t < 256
bin-lt t = omega arith

-- what a timing in count b adds to count i
abbrev adds : ℕ → ℕ → ℕ
adds b i = cond (eqb b i) 1 0

adds_same : (b i : ℕ) → i ≡ b → adds b i ≡ 1
adds_same b i e = rw (eq-eqb b i (sym e))

adds-other : (b i : ℕ) → (i ≡ b → ⊥) → adds b i ≡ 0
adds-other b i e = rw (ne_eqb b i (λ z. e (sym z)))

pub count-le : (ts : List ℕ) (i : ℕ) → count_of ts i ≤ length ts
unfolding count_of
count-le [] i = omega arith
count-le (t ∷ ts) i = go (eqb (bin_of t) i) (count-le ts i)
  where
    go : (b : Bool) → count_of ts i ≤ length ts → cond b 1 0 + count_of ts i ≤ suc (length ts)
    go true h = omega arith
    go false h = omega arith

-- the table after the first k timings: each count, with what is left of the timings, makes the whole
abbrev pub Counting : List ℕ → List ℕ → ℕ → Type 0
Counting ts counts k = (i : ℕ) → i < 256 → get_or counts i 0 + count_of (drop k ts) i ≡ count_of ts i

pub none-counted : (ts : List ℕ) → Counting ts (replicate 256 0) 0
none-counted ts i h = rw (get_or-replicate {A = ℕ} 256 i 0 0 h) (zero-add _)

module _ (ts counts : List ℕ) (k : ℕ) (inv : Counting ts counts k) where
  count_next : (i : ℕ) → k < length ts → count_of (drop k ts) i ≡ adds (bin_of (get_or ts k 0)) i + count_of (drop (k + 1) ts) i
  unfolding count_of
  count_next i h = rw (add-one k, drop-cons ts k 0 h)

  -- no count passes the number of timings
  pub room-for-one : k < length ts → get_or counts (bin_of (get_or ts k 0)) 0 + 1 ≤ length ts
  room-for-one h =
      let b = bin_of (get_or ts k 0) in
      let n = count_next b h in
      let a = adds_same b b refl in
      omega (arith, inv b (bin-lt (get_or ts k 0)), count-le ts b)

  pub one_more : length counts ≡ 256 → k < length ts → (b : ℕ) → b ≡ bin_of (get_or ts k 0) → Counting ts (set counts b (get_or counts b 0 + 1)) (k + 1)
  one_more l h b e i m = go (ℕ_discrete i b) (rw (← e) at (count_next i h)) (inv i m)
    where
      go : Dec (i ≡ b) → count_of (drop k ts) i ≡ adds b i + count_of (drop (k + 1) ts) i → get_or counts i 0 + count_of (drop k ts) i ≡ count_of ts i
          → get_or (set counts b (get_or counts b 0 + 1)) i 0 + count_of (drop (k + 1) ts) i ≡ count_of ts i
      go (yes z) n w =
          let s = get_or-set_same counts b (get_or counts b 0 + 1) 0 (omega (arith, bin-lt (get_or ts k 0))) in
          let a = adds_same b i z in
          rw z (omega (arith, rw z at n, rw z at w, rw z at a))
      go (no z) n w = omega (arith, get_or-set_other counts b i (get_or counts b 0 + 1) 0 z, adds-other b i z)

  pub all-counted : length counts ≡ 256 → length ts ≤ k → counts ≡ counts_of ts
  unfolding count_of counts_of
  all-counted l h = rw l at (is-listed (count_of ts) 0 counts each)
    where
      each : (i : ℕ) → i < length counts → get_or counts i 0 ≡ count_of ts i
      each i m =
          let d : get_or counts i 0 + 0 ≡ count_of ts i = rw (drop_of_length-le ts h) at (inv i (omega arith)) in
          omega arith

sum-append : (xs ys : List ℕ) → sum_of (xs ++ ys) ≡ sum_of xs + sum_of ys
unfolding sum_of
sum-append [] ys = omega arith
sum-append (x ∷ xs) ys = omega (arith, sum-append xs ys)

pub sum_zeros : (n : ℕ) → sum_of (replicate n 0) ≡ 0
unfolding sum_of
sum_zeros zero = refl
sum_zeros (suc n) = omega (arith, sum_zeros n)

sum-last : (f : ℕ → ℕ) (n : ℕ) → sum_of (listed f (suc n)) ≡ sum_of (listed f n) + f n
unfolding listed sum_of
sum-last f n = omega (arith, sum-append (listed f n) (f n ∷ []))

sum-none : (f : ℕ → ℕ) → ((i : ℕ) → f i ≡ 0) → (n : ℕ) → sum_of (listed f n) ≡ 0
unfolding listed sum_of
sum-none f h zero = refl
sum-none f h (suc n) = omega (arith, sum-last f n, h n, sum-none f h n)

sum_both : (f g h : ℕ → ℕ) → ((i : ℕ) → h i ≡ f i + g i) → (n : ℕ) → sum_of (listed h n) ≡ sum_of (listed f n) + sum_of (listed g n)
unfolding listed sum_of
sum_both f g h e zero = refl
sum_both f g h e (suc n) = omega (arith, sum-last f n, sum-last g n, sum-last h n, e n, sum_both f g h e n)

sum-before : (b n : ℕ) → n ≤ b → sum_of (listed (adds b) n) ≡ 0
unfolding listed sum_of
sum-before b zero h = refl
sum-before b (suc n) h = omega (arith, sum-last (adds b) n, sum-before b n (omega arith), adds-other b n (λ z. omega arith))

-- a timing adds one to the counts, all in all
sum-adds : (b n : ℕ) → b < n → sum_of (listed (adds b) n) ≡ 1
sum-adds b zero h = absurd (omega arith)
sum-adds b (suc n) h = go (ℕ_discrete n b) (sum-adds b n)
  where
    go : Dec (n ≡ b) → (b < n → sum_of (listed (adds b) n) ≡ 1) → sum_of (listed (adds b) (suc n)) ≡ 1
    go (yes z) before = omega (arith, sum-last (adds b) n, sum-before b n (omega arith), adds_same b n z)
    go (no z) before = omega (arith, sum-last (adds b) n, before (omega arith), adds-other b n z)

-- rule 5.3: the counts of timings add up to as many as there are
pub counts-sum : (ts : List ℕ) → sum_of (counts_of ts) ≡ length ts
unfolding count_of counts_of
counts-sum [] = sum-none (count_of []) (λ i. refl) 256
counts-sum (t ∷ ts) =
    omega (arith, sum_both (adds (bin_of t)) (count_of ts) (count_of (t ∷ ts)) (λ i. refl) 256, sum-adds (bin_of t) 256 (bin-lt t), counts-sum ts)

-- the counts of a call, and their sum, by its judgement of the timings
module _ (ts : List ℕ) where
  module _ {number value : ℕ} (bad : refused number value ≡ timings_judged ts (gives (tt {0}))) where
    pub refused_counts : replicate 256 0 ≡ counts_after (counting ts) ts
    unfolding counts_after
    refused_counts = rw (← (judged_refused ts (gives (length ts)) bad))

    pub refused_sum : sum_of (replicate 256 0) ≡ sum_after (counting ts) ts
    unfolding sum_after
    refused_sum = rw (← (judged_refused ts (gives (length ts)) bad)) (sum_zeros 256)

  module _ (good : gives (tt {0}) ≡ timings_judged ts (gives (tt {0}))) {counts : List ℕ} (made : counts ≡ counts_of ts) where
    pub given_counts : counts ≡ counts_after (counting ts) ts
    unfolding counts_after
    given_counts = rw (← (judged_good ts (gives (length ts)) good)) made

    pub given_sum : sum_of counts ≡ sum_after (counting ts) ts
    unfolding sum_after
    given_sum = rw (← (judged_good ts (gives (length ts)) good), made) (counts-sum ts)
