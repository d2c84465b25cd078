-- Tracks that follow each other and have TNF: a range has it on each of its tracks, and each track with TNF lies in a range. Assumes nothing.
use Prim.Native.Nat.{ℕ, zero, suc, ◌+◌, ◌-◌, ◌<◌, ◌≤◌}
use mathlib.Core.Path.{◌≡◌, refl}
use mathlib.Core.Bool.{Bool, true, false, not}
use mathlib.Core.List.{List}
use mathlib.Core.Logic.{◌⊎◌, inl, inr}
use native.Mathlib.Decide.{dec_le}
use native.Mathlib.Nat.{eq-or-lt_of_le, lt_of_not-le}
use native.Mathlib.Numerals.{add-one}
use native.Mathlib.Omega.{arith}
use borrow.Author.Tests.{not-true, not-false}
use Rattle.basis.specs.Search.{least}
use Rattle.basis.proofs.Search.{least-before, least-found, least-low}
use Rattle.disk_page.specs.Ranges.{has_tnf, goes_on, last_of}
use Rattle.disk_laws.proofs.Accepted.{clash}

module _ (tracks findings : List ℕ) (H : ℕ) where
  -- each track of a range has TNF
  pub in-range : (T U : ℕ) → has_tnf tracks findings H T ≡ true → T ≤ U → U ≤ last_of tracks findings H T → has_tnf tracks findings H U ≡ true
  unfolding last_of
  in-range T zero e h l = let s : T ≡ 0 = omega arith in rw s at e
  in-range T (suc S) e h l = go (eq-or-lt_of_le {n = T} {m = suc S} h)
    where
      go : (T ≡ suc S) ⊎ (T < suc S) → has_tnf tracks findings H (suc S) ≡ true
      go (inl s) = rw s at e
      go (inr g) =
          let n : not (has_tnf tracks findings H (S + 1)) ≡ false = least-before (λ U. not (has_tnf tracks findings H (U + 1))) (84 - T) T S (omega arith) l in
          rw add-one at (not-false (has_tnf tracks findings H (S + 1)) n)

  -- the range that a track lies in
  pub record Start (T : ℕ) : Type 0 where
    pub first : ℕ
    pub low : first ≤ T
    pub begins : goes_on tracks findings H first ≡ false
    pub all : (U : ℕ) → first ≤ U → U ≤ T → has_tnf tracks findings H U ≡ true

  pub run-start : (T : ℕ) → has_tnf tracks findings H T ≡ true → Start T
  unfolding goes_on
  run-start zero e = record { first = 0; low = omega arith; begins = refl; all = λ U a b. (let s : U ≡ 0 = omega arith in rw s e) }
  run-start (suc T) e = go (has_tnf tracks findings H T) refl (run-start T)
    where
      go : (b : Bool) → has_tnf tracks findings H T ≡ b → (has_tnf tracks findings H T ≡ true → Start T) → Start (suc T)
      go true s before =
          let r = before s in
          record { first = r.first; low = omega (arith, r.low); begins = r.begins; all = λ U a b. grows r U a (eq-or-lt_of_le {n = U} {m = suc T} b) }
        where
          grows : (r : Start T) (U : ℕ) → r.first ≤ U → (U ≡ suc T) ⊎ (U < suc T) → has_tnf tracks findings H U ≡ true
          grows r U a (inl u) = rw u e
          grows r U a (inr u) = r.all U a (omega arith)
      go false s before =
          record { first = suc T; low = omega arith; begins = s; all = λ U a b. (let u : U ≡ suc T = omega arith in rw u e) }

  -- the range reaches as far as the track
  pub reaches : (T : ℕ) (r : Start T) → T ≤ 83 → T ≤ last_of tracks findings H r.first
  unfolding last_of
  reaches T r h = go (dec_le T (least (λ U. not (has_tnf tracks findings H (U + 1))) (84 - r.first) r.first))
    where
      go : Dec (T ≤ least (λ U. not (has_tnf tracks findings H (U + 1))) (84 - r.first) r.first) → T ≤ least (λ U. not (has_tnf tracks findings H (U + 1))) (84 - r.first) r.first
      go (yes l) = l
      go (no l) =
          let low = r.low in
          let short = lt_of_not-le l in
          let last = least (λ U. not (has_tnf tracks findings H (U + 1))) (84 - r.first) r.first in
          let from = least-low (λ U. not (has_tnf tracks findings H (U + 1))) (84 - r.first) r.first in
          let e = least-found (λ U. not (has_tnf tracks findings H (U + 1))) (84 - r.first) r.first (omega arith) in
          clash (r.all (last + 1) (omega arith) (omega arith)) (not-true _ e)
