-- When a number is in order: it stands once, and its sector is plain. Assumes nothing.
use Prim.Native.Nat.{ℕ, ◌+◌, ◌-◌, ◌<◌, ◌≤◌}
use mathlib.Core.Path.{◌≡◌, refl, sym, ◌∙◌}
use mathlib.Core.Bool.{Bool, true, false, cond, not}
use mathlib.Core.List.{List}
use native.Mathlib.Decide.{dec_le}
use native.Mathlib.Nat.{sub-zero, lt_of_not-le}
use native.Mathlib.Omega.{arith}
use borrow.Author.Tests.{lt-ltb, le-ltb, eq-eqb, ne_eqb, eqb-true}
use lib.Dec.{eqb, ltb}
use lib.ListN.{length, get_or}
use Rattle.basis.specs.Search.{least, count}
use Rattle.basis.proofs.Bools.{and_left, and_right}
use Rattle.basis.proofs.Search.{least-before, count_next, count-end}
use Rattle.sector_records.specs.Sectors.{no_sector}
use Rattle.sector_records.specs.declared.Sector.{Sector}
use Rattle.sector_image.specs.Image.{is_plain, numbered, index_of, fits, first_unfit}

module _ (sectors : List Sector) (number all : ℕ) (len : length sectors ≡ all) where
  abbrev test : ℕ → Bool
  test = numbered sectors number

  -- how many sectors have the number, by what the search for the first of them finds
  abbrev times : ℕ
  times = count test all 0

  from_first : (first : ℕ) → first ≡ least test (all - 0) 0 → times ≡ cond (ltb first all) 1 0 + count test (all - (first + 1)) (first + 1)
  from_first first e = rw sub-zero at (count_next test all 0 first (omega arith) e)

  pub index_is : (first : ℕ) → first ≡ least test (all - 0) 0 → first ≡ index_of sectors number
  unfolding index_of
  index_is first e = rw len (rw sub-zero at e)

  none_at_all : (first : ℕ) → first ≡ least test (all - 0) 0 → all ≤ first → times ≡ 0
  none_at_all first e h =
      from_first first e ∙ rw (le-ltb first all h, count-end test all (first + 1) (omega arith))

  pub fits-none : (first : ℕ) → first ≡ least test (all - 0) 0 → all ≤ first → false ≡ fits sectors number
  unfolding fits
  fits-none first e h = rw (len, none_at_all first e h)

  module _ (first second : ℕ) (e : first ≡ least test (all - 0) 0) (h : first < all) (g : second ≡ least test (all - (first + 1)) (first + 1)) where
    from_second : count test (all - (first + 1)) (first + 1) ≡ cond (ltb second all) 1 0 + count test (all - (second + 1)) (second + 1)
    from_second = count_next test all (first + 1) second (omega arith) g

    pub fits-twice : second < all → false ≡ fits sectors number
    unfolding fits
    fits-twice l =
        let z : times ≡ 1 + (1 + count test (all - (second + 1)) (second + 1)) =
        from_first first e ∙ rw (lt-ltb first all h, from_second, lt-ltb second all l) in
        rw (len, ne_eqb times 1 (λ o. omega (arith, z, o)))

    pub fits-once : (b : Bool) → all ≤ second → b ≡ is_plain (get_or sectors first no_sector) → b ≡ fits sectors number
    unfolding fits
    fits-once b l p =
        let z : times ≡ 1 =
        from_first first e ∙ rw (lt-ltb first all h, from_second, le-ltb second all l, count-end test all (second + 1) (omega arith)) in
        rw (len, eq-eqb times 1 z, ← index_is first e) p

module _ (sectors : List Sector) (number : ℕ) (e : fits sectors number ≡ true) where
  abbrev found : ℕ → Bool
  found = numbered sectors number

  pub fits-plain : is_plain (get_or sectors (index_of sectors number) no_sector) ≡ true
  unfolding fits
  fits-plain = and_right (eqb (count found (length sectors) 0) 1) (is_plain (get_or sectors (index_of sectors number) no_sector)) e

  pub fits-there : index_of sectors number < length sectors
  unfolding fits index_of
  fits-there = go (dec_le (length sectors) (least found (length sectors - 0) 0))
    where
      one : count found (length sectors) 0 ≡ 1
      one = eqb-true (count found (length sectors) 0) 1 (and_left (eqb (count found (length sectors) 0) 1) (is_plain (get_or sectors (index_of sectors number) no_sector)) e)

      go : Dec (length sectors ≤ least found (length sectors - 0) 0) → least found (length sectors) 0 < length sectors
      go (yes h) = absurd (omega (arith, one, none_at_all sectors number (length sectors) refl (least found (length sectors - 0) 0) refl h))
      go (no h) = rw sub-zero at (lt_of_not-le h)

-- where no number from 1 to 9 is the least that is not in order, each is in order
pub all_fit : (sectors : List Sector) → 9 < first_unfit sectors → (i : ℕ) → i < 9 → fits sectors (i + 1) ≡ true
unfolding first_unfit
all_fit sectors h i b = go (fits sectors (i + 1)) (least-before (λ number. not (fits sectors number)) 9 1 (i + 1) (omega arith) (omega arith))
  where
    go : (b : Bool) → not b ≡ false → b ≡ true
    go true e = refl
    go false e = sym e
