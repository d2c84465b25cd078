-- Findings as numbers, read back by their index; and when a finding among them is not amiss. Assumes nothing.
use Prim.Native.Nat.{ℕ, zero, suc, ◌+◌, ◌-◌, ◌*◌, ◌<◌, ◌≤◌}
use mathlib.Core.Path.{◌≡◌, refl}
use mathlib.Core.Bool.{true, false}
use mathlib.Core.List.{List, [], ◌∷◌, ◌++◌}
use mathlib.Core.Logic.{inl, inr}
use native.Mathlib.Decide.{ℕ_discrete}
use native.Mathlib.Omega.{arith}
use borrow.Author.Tests.{lt-ltb, le-ltb, eq-eqb, ne_eqb}
use lib.ListN.{length, get_or}
use lib.Seq.{get_or-append-add}
use Rattle.finding_list.specs.Calls.{numbers_of}
use Rattle.finding_list.specs.declared.Finding.{Finding}
use Rattle.finding_list.proofs.Numbers.{length-numbers}
use Rattle.disk_tracks.specs.Given.{kind_at, level_at, place_at, detail_at}
use Rattle.disk_tracks.specs.Judgement.{is_amiss, is_later, amiss_at}
use Rattle.disk_laws.proofs.Accepted.{Later, Tnf}

-- finding j of those at the front
pub record ReadAs (numbers : List ℕ) (j : ℕ) (x : Finding) : Type 0 where
  pub kind : kind_at numbers j ≡ x.kind
  pub level : level_at numbers j ≡ x.level
  pub place : place_at numbers j ≡ x.place
  pub detail : detail_at numbers j ≡ x.detail

pub read-front : (d : Finding) (rest : List ℕ) (xs : List Finding) (j : ℕ) → j < length xs → ReadAs (numbers_of xs ++ rest) j (get_or xs j d)
unfolding numbers_of
read-front d rest [] j h = absurd (omega arith)
read-front d rest (x ∷ xs) zero h = record { kind = refl; level = refl; place = refl; detail = refl }
read-front d rest (x ∷ xs) (suc j) h =
    let r = read-front d rest xs j (omega arith) in
    let e₀ : 4 * suc j ≡ suc (suc (suc (suc (4 * j)))) = omega arith in
    let e₁ : 4 * suc j + 1 ≡ suc (suc (suc (suc (4 * j + 1)))) = omega arith in
    let e₂ : 4 * suc j + 2 ≡ suc (suc (suc (suc (4 * j + 2)))) = omega arith in
    let e₃ : 4 * suc j + 3 ≡ suc (suc (suc (suc (4 * j + 3)))) = omega arith in
    record { kind = rw e₀ r.kind; level = rw e₁ r.level; place = rw e₂ r.place; detail = rw e₃ r.detail }

-- a number behind them
pub read_behind : (xs : List Finding) (rest : List ℕ) (m n : ℕ) → m ≡ 4 * length xs + n → get_or (numbers_of xs ++ rest) m 0 ≡ get_or rest n 0
read_behind xs rest m n e =
    let s : m ≡ length (numbers_of xs) + n = omega (arith, length-numbers xs) in
    rw s (get_or-append-add (numbers_of xs) rest n 0)

-- a finding behind them is judged by the rest alone
pub amiss-behind : (T : ℕ) (xs : List Finding) (rest : List ℕ) (start k : ℕ) → amiss_at T (numbers_of xs ++ rest) (length xs + start) k ≡ amiss_at T rest start k
unfolding amiss_at
amiss-behind T xs rest start zero =
    rw (
      read_behind xs rest (4 * (length xs + start + 0)) (4 * (start + 0)) (omega arith),
      read_behind xs rest (4 * (length xs + start + 0) + 1) (4 * (start + 0) + 1) (omega arith),
      read_behind xs rest (4 * (length xs + start + 0) + 2) (4 * (start + 0) + 2) (omega arith),
      read_behind xs rest (4 * (length xs + start + 0) + 3) (4 * (start + 0) + 3) (omega arith),
    )
amiss-behind T xs rest start (suc k) =
    rw (
      read_behind xs rest (4 * (length xs + start + suc k)) (4 * (start + suc k)) (omega arith),
      read_behind xs rest (4 * (length xs + start + suc k) + 1) (4 * (start + suc k) + 1) (omega arith),
      read_behind xs rest (4 * (length xs + start + suc k) + 2) (4 * (start + suc k) + 2) (omega arith),
      read_behind xs rest (4 * (length xs + start + suc k) + 3) (4 * (start + suc k) + 3) (omega arith),
      read_behind xs rest (4 * (length xs + start + suc k - 1)) (4 * (start + suc k - 1)) (omega arith),
      read_behind xs rest (4 * (length xs + start + suc k - 1) + 2) (4 * (start + suc k - 1) + 2) (omega arith),
    )

-- what is not amiss
sound-numbers : (T kind level place detail : ℕ) → 1 ≤ kind → kind ≤ 21 → (kind ≡ 4 → Tnf T level place detail) → is_amiss T kind level place detail ≡ false
unfolding is_amiss
sound-numbers T kind level place detail low high tnf = go (ℕ_discrete kind 4)
  where
    go : Dec (kind ≡ 4) → is_amiss T kind level place detail ≡ false
    go (no n) = rw (le-ltb kind 1 low, le-ltb 21 kind high, ne_eqb kind 4 n)
    go (yes y) =
        let t = tnf y in
        rw (le-ltb kind 1 low, le-ltb 21 kind high, eq-eqb kind 4 y, le-ltb 79 T t.low, eq-eqb level 2 t.level_is, eq-eqb place 0 t.place_is, eq-eqb detail 0 t.detail_is)

later-numbers : (k p l q : ℕ) → Later k p l q → is_later k p l q ≡ true
unfolding is_later
later-numbers k p l q (inl h) = rw (lt-ltb k l h)
later-numbers k p l q (inr (e, h)) = rw (le-ltb k l (omega arith), eq-eqb k l e, lt-ltb p q h)

pub not-amiss : (T : ℕ) (findings : List ℕ) (start k : ℕ) → 1 ≤ kind_at findings (start + k) → kind_at findings (start + k) ≤ 21
    → (kind_at findings (start + k) ≡ 4 → Tnf T (level_at findings (start + k)) (place_at findings (start + k)) (detail_at findings (start + k)))
    → (0 < k → Later (kind_at findings (start + k - 1)) (place_at findings (start + k - 1)) (kind_at findings (start + k)) (place_at findings (start + k)))
    → amiss_at T findings start k ≡ false
unfolding amiss_at
not-amiss T findings start zero low high tnf later = rw (sound-numbers T _ _ _ _ low high tnf)
not-amiss T findings start (suc k) low high tnf later =
    rw (sound-numbers T _ _ _ _ low high tnf, lt-ltb 0 (suc k) (omega arith), later-numbers _ _ _ _ (later (omega arith)))
