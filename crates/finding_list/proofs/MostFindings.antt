-- How many findings there can be: 901 where there are at most 64 sectors (rule 7.35). Assumes nothing.
use Prim.Native.Nat.{ℕ, zero, suc, ◌+◌, ◌*◌, ◌<◌, ◌≤◌}
use mathlib.Core.Path.{◌≡◌, refl, ◌∙◌}
use mathlib.Core.Bool.{Bool, true, false, cond, ◌&&◌}
use mathlib.Core.List.{List, [], ◌∷◌}
use native.Mathlib.Decide.{dec_le}
use native.Mathlib.Nat.{lt_of_not-le, suc-mul}
use native.Mathlib.Omega.{arith}
use borrow.Author.Tests.{le-ltb, ne_eqb}
use lib.Dec.{eqb, ltb, leb}
use lib.ListN.{length, length-append}
use Rattle.basis.specs.Lists.{joined}
use Rattle.finding_rules.specs.Rules.{lgt, sht, nos, tnf, ext, track_rows, rows}
use Rattle.finding_rules.specs.declared.Row.{Row}
use Rattle.finding_list.specs.Findings.{kinds, looks, row_at, found_by, found_at, of_kind}
use Rattle.finding_list.specs.Calls.{most_findings}
use Rattle.finding_list.specs.declared.Finding.{Finding}
use Rattle.finding_list.proofs.Looks.{looks-sectors, looks-last}
use Rattle.layouts.specs.declared.Layout.{Layout}
use Rattle.layouts.specs.PrivateContracts.{Sound}
use Rattle.sector_records.specs.declared.Sector.{Sector}

-- g 0 + g 1 + .. + g (n - 1)
abbrev sum : (ℕ → ℕ) → ℕ → ℕ
sum g zero = 0
sum g (suc n) = sum g n + g n

length-joined : (f : ℕ → List Finding) (n : ℕ) → length (joined f n) ≡ sum (λ k. length (f k)) n
unfolding joined
length-joined f zero = refl
length-joined f (suc n) = length-append (joined f n) (f n) ∙ rw (length-joined f n)

-- a row finds at most one thing
one-if : Bool → ℕ
one-if holds = cond holds 1 0

one-or-none : (b : Bool) (x : Finding) → length (cond b (x ∷ []) []) ≡ cond b 1 0
one-or-none true x = refl
one-or-none false x = refl

length_found : (k : ℕ) (row : Row) → length (found_by k row) ≡ one-if row.holds
unfolding found_by one-if
length_found k row = one-or-none row.holds _

at_most_one : (b : Bool) → one-if b ≤ 1
unfolding one-if
at_most_one true = omega arith
at_most_one false = omega arith

sum-few : (g : ℕ → ℕ) (b m n : ℕ) → ((k : ℕ) → k < n → g (m + k) ≤ b) → sum g (m + n) ≤ sum g m + n * b
sum-few g b m zero h = let e : m + 0 ≡ m = omega arith in rw e (omega arith)
sum-few g b m (suc n) h =
    let e : m + suc n ≡ suc (m + n) = omega arith in
    rw (e, suc-mul n b) (omega (arith, h n (omega arith), sum-few g b m n (λ k l. h k (omega arith))))

-- a track is not both too long and too short, nor both without a sector and with one
long-or-short : (layout : Layout) → Sound layout → (N : ℕ) → one-if (lgt layout N).holds + one-if (sht layout N).holds ≤ 1
unfolding one-if
long-or-short layout sound N = go (dec_le N layout.most_cells)
  where
    go : Dec (N ≤ layout.most_cells) → one-if (lgt layout N).holds + one-if (sht layout N).holds ≤ 1
    go (yes h) = rw (le-ltb layout.most_cells N h) (omega (arith, at_most_one (ltb N layout.fewest_cells)))
    go (no h) =
        let l = lt_of_not-le h in
        rw (le-ltb N layout.fewest_cells (omega (arith, sound.cells))) (omega (arith, at_most_one (ltb layout.most_cells N)))

none_or_some : (m T : ℕ) → one-if (tnf m T).holds + one-if (ext m T).holds ≤ 1
unfolding one-if
none_or_some m T = go (dec_le m 0)
  where
    go : Dec (m ≤ 0) → one-if (tnf m T).holds + one-if (ext m T).holds ≤ 1
    go (yes h) = rw (le-ltb 0 m h) (omega (arith, at_most_one (eqb m 0 && leb T 79)))
    go (no h) =
        let l = lt_of_not-le h in
        rw (ne_eqb m 0 (λ e. omega arith)) (omega (arith, at_most_one (ltb 0 m && leb 80 T)))

module _ (layout : Layout) (sound : Sound layout) (f : ℕ → ℕ) (N T : ℕ) (ss : List Sector) where
  number : ℕ → ℕ
  number k = length (of_kind layout f N T ss k)

  -- a kind finds at most as much as it looks
  looks-few : (k : ℕ) → number k ≤ looks ss k
  unfolding number of_kind found_at joined
  looks-few k = go (looks ss k)
    where
      go : (n : ℕ) → length (joined (found_at layout f N T ss k) n) ≤ n
      go zero = omega arith
      go (suc n) =
          simp length-append (omega (arith, go n, length_found k (row_at layout f N T ss k n), at_most_one (row_at layout f N T ss k n).holds))

  first : (k : ℕ) (row : Row) → of_kind layout f N T ss k ≡ found_by k row → number k ≡ one-if row.holds
  unfolding number
  first k row e = rw e (length_found k row)

  first-few : sum number 5 ≤ 3
  unfolding of_kind found_at row_at rows track_rows looks joined
  first-few =
      omega (
        arith,
        first 0 (lgt layout N) refl,
        first 1 (sht layout N) refl,
        first 2 (nos layout (length ss)) refl,
        first 3 (tnf (length ss) T) refl,
        first 4 (ext (length ss) T) refl,
        long-or-short layout sound N,
        at_most_one (nos layout (length ss)).holds,
        none_or_some (length ss) T,
      )

  sector-few : (k : ℕ) → k < 14 → number (5 + k) ≤ length ss
  sector-few k h = rw (looks-sectors ss (5 + k) (omega arith) (omega arith)) at (looks-few (5 + k))

  last-few : (k : ℕ) → k < 2 → number (19 + k) ≤ 1
  last-few k h = rw (looks-last ss (19 + k) (omega arith)) at (looks-few (19 + k))

  pub few_findings : length ss ≤ 64 → length (joined (of_kind layout f N T ss) kinds) ≤ most_findings
  unfolding number
  few_findings h =
      rw (length-joined (of_kind layout f N T ss) kinds)
      (omega (arith, first-few, sum-few number (length ss) 5 14 sector-few, sum-few number 1 19 2 last-few))
