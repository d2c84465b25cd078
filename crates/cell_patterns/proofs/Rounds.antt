-- Counting on a track that goes on round. Assumes nothing.
use Prim.Native.Nat.{ℕ, zero, suc, ◌+◌, ◌-◌, ◌<◌, ◌≤◌}
use mathlib.Core.Path.{◌≡◌, refl, ap}
use mathlib.Core.Bool.{Bool}
use native.Mathlib.Omega.{arith}
use lib.Dec.{eqb}
use Rattle.basis.specs.Search.{count}
use Rattle.cells.proofs.Words.{word_same}
use Rattle.cell_words.proofs.Ranges.{count-join}
use Rattle.sector_records.specs.Marks.{word_mark_at}

-- a word stands again a turn on
pub mark-round : (f : ℕ → ℕ) (n : ℕ) → ((q : ℕ) → f (q + n) ≡ f q) → (w q : ℕ) → word_mark_at f w (q + n) ≡ word_mark_at f w q
unfolding word_mark_at
mark-round f n round w q =
    ap (λ (x : ℕ). eqb x w)
    (word_same f f 16 (q + n) q (λ i l. let e : q + n + i ≡ q + i + n = omega arith in rw e (round (q + i))))

module _ (t : ℕ → Bool) (n : ℕ) (round : (q : ℕ) → t (q + n) ≡ t q) where
  count-again : (k p : ℕ) → count t k (p + n) ≡ count t k p
  unfolding count
  count-again zero p = refl
  count-again (suc k) p = let e : p + n + 1 ≡ p + 1 + n = omega arith in rw (round p, e, count-again k (p + 1))

  -- a range that goes over the index, and one behind it
  pub count-over : (from end a b : ℕ) → from < n → n < end → a ≡ count t (n - from) from → b ≡ count t (end - n - 0) 0 → a + b ≡ count t (end - from) from
  count-over from end a b h l e g =
      let k : end - n - 0 ≡ end - n = omega arith in
      let z : 0 + n ≡ n = omega arith in
      let m : count t (end - n) n ≡ count t (end - n) 0 = rw z at (count-again (end - n) 0) in
      let s = rw k at g in
      rw (e, s, ← m) (count-join t from n end (omega arith) (omega arith))

  pub count_past : (from end r : ℕ) → n ≤ from → n < end → r ≡ count t (end - n - (from - n)) (from - n) → r ≡ count t (end - from) from
  count_past from end r h l e =
      let k : end - n - (from - n) ≡ end - from = omega arith in
      let p : from - n + n ≡ from = omega arith in
      let m : count t (end - from) from ≡ count t (end - from) (from - n) = rw p at (count-again (end - from) (from - n)) in
      rw m (rw k at e)
