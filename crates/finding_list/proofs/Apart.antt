-- Sectors that lie one behind the other: none starts in the data of another. Assumes nothing.
use Prim.Native.Nat.{ℕ, suc, ◌+◌, ◌<◌, ◌≤◌}
use mathlib.Core.Path.{◌≡◌, refl, ap}
use mathlib.Core.Bool.{Bool, true, false, not, ◌&&◌, ◌||◌}
use mathlib.Core.List.{List, [], ◌∷◌}
use mathlib.Core.Logic.{◌⊎◌, inl, inr}
use native.Mathlib.Decide.{dec_le, ℕ_discrete}
use native.Mathlib.Nat.{lt_of_not-le}
use native.Mathlib.Omega.{arith}
use borrow.Author.Tests.{eq-eqb, le-ltb, lt-leb}
use lib.Dec.{eqb, leb}
use lib.ListN.{length}
use Rattle.basis.proofs.Bools.{and-false}
use Rattle.finding_rules.specs.Rules.{nth, some_sector, is_in_data, starts_in_data}
use Rattle.finding_list.specs.PrivateContracts.{Clear}
use Rattle.sector_records.specs.Sectors.{has_data}
use Rattle.sector_records.specs.declared.Sector.{Sector}

pub clear_later : (s : Sector) (a b : ℕ) → Clear s a → a ≤ b → Clear s b
clear_later s a b c h = record { before = omega (arith, c.before); behind = λ d. let e = c.behind d in (e.0, omega (arith, e.1)) }

-- one sector does not start in the data of another that ends before it, or that begins behind it; nor in its own
module _ (N : ℕ) (s o : Sector) where
  not_in : (has_data o ≡ true → ((o.data_end ≤ s.place) ⊎ (s.place < o.data_place)) × (o.data_end ≤ N)) → starts_in_data N s o ≡ false
  unfolding starts_in_data
  not_in far = go (not (eqb o.place s.place)) (has_data o) refl
    where
      out : ((o.data_end ≤ s.place) ⊎ (s.place < o.data_place)) × (o.data_end ≤ N) → is_in_data s.place o || is_in_data (s.place + N) o ≡ false
      out (inl a, b) = rw (le-ltb s.place o.data_end a, le-ltb (s.place + N) o.data_end (omega arith), and-false (leb o.data_place s.place), and-false (leb o.data_place (s.place + N)))
      out (inr a, b) = rw (lt-leb o.data_place s.place a, le-ltb (s.place + N) o.data_end (omega arith), and-false (leb o.data_place (s.place + N)))

      go : (x d : Bool) → has_data o ≡ d → ((x && d) && (is_in_data s.place o || is_in_data (s.place + N) o)) ≡ false
      go true true e = out (far e)
      go true false e = refl
      go false d e = refl

  not_own : o.place ≡ s.place → starts_in_data N s o ≡ false
  unfolding starts_in_data
  not_own e = rw (eq-eqb o.place s.place e)

-- the sectors before i lie before `free`, and each before those after it
pub record ApartBefore (ss : List Sector) (i free : ℕ) : Type 0 where
  pub clear : (j : ℕ) → j < i → Clear (nth ss j) free
  pub pairs : (j k : ℕ) → j < k → k < i → Clear (nth ss j) (nth ss k).place

pub apart_none : (ss : List Sector) → ApartBefore ss 0 0
apart_none ss = record { clear = λ j h. absurd (omega arith); pairs = λ j k h l. absurd (omega arith) }

pub apart_more : (ss : List Sector) (i free free' : ℕ) → ApartBefore ss i free → free ≤ (nth ss i).place → Clear (nth ss i) free' → ApartBefore ss (i + 1) free'
apart_more ss i free free' a h c =
    record { clear = λ j l. one j l (ℕ_discrete j i); pairs = λ j k l m. two j k l m (ℕ_discrete k i) }
  where
    here : (j : ℕ) → j < i → Clear (nth ss j) (nth ss i).place
    here j l = clear_later (nth ss j) free (nth ss i).place (a.clear j l) h

    one : (j : ℕ) → j < i + 1 → Dec (j ≡ i) → Clear (nth ss j) free'
    one j l (yes e) = rw e c
    one j l (no e) = clear_later (nth ss j) (nth ss i).place free' (here j (omega arith)) (omega (arith, c.before))

    two : (j k : ℕ) → j < k → k < i + 1 → Dec (k ≡ i) → Clear (nth ss j) (nth ss k).place
    two j k l m (yes e) = rw e (here j (omega arith))
    two j k l m (no e) = a.pairs j k l (omega arith)

some-nowhere : (test : Sector → Bool) (ss : List Sector) → ((j : ℕ) → j < length ss → test (nth ss j) ≡ false) → some_sector test ss ≡ false
unfolding some_sector
some-nowhere test [] h = refl
some-nowhere test (s ∷ ss) h = rw (h 0 (omega arith)) (some-nowhere test ss (λ j l. h (suc j) (omega arith)))

pub apart-all : (N : ℕ) (ss : List Sector) (free : ℕ) → ApartBefore ss (length ss) free → free ≤ N → (i : ℕ) → i < length ss → some_sector (starts_in_data N (nth ss i)) ss ≡ false
apart-all N ss free a h i l = some-nowhere (starts_in_data N (nth ss i)) ss (λ j b. go j b (ℕ_discrete j i) (dec_le i j))
  where
    inside : (j : ℕ) → j < length ss → has_data (nth ss j) ≡ true → (nth ss j).data_end ≤ N
    inside j b d = omega (arith, ((a.clear j b).behind d).1)

    go : (j : ℕ) → j < length ss → Dec (j ≡ i) → Dec (i ≤ j) → starts_in_data N (nth ss i) (nth ss j) ≡ false
    go j b (yes e) d = not_own N (nth ss i) (nth ss j) (ap (λ (k : ℕ). (nth ss k).place) e)
    go j b (no e) (yes d) =
        let before = (a.pairs i j (omega arith) b).before in
        not_in N (nth ss i) (nth ss j) (λ g. (inr (omega (arith, ((a.clear j b).behind g).0)), inside j b g))
    go j b (no e) (no d) = not_in N (nth ss i) (nth ss j) (λ g. (inl ((a.pairs j i (lt_of_not-le d) l).behind g).1, inside j b g))
