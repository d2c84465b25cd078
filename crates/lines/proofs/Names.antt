-- The names of the kinds. Assumes nothing.
use Rattle.std.proofs.Common.{ℕ, suc, ◌-◌, ◌≤◌, ◌<◌, ◌≡◌, [], ◌∷◌, map, length, get_or, refl, ap, ◌∙◌, arith}
use Rattle.std.proofs.Math.ListN.{get_or-map, get_or-eq_default}
use native.Mathlib.Decide.{dec_le}
use native.Mathlib.Nat.{lt_of_not-le}
use lib.Dec.{T, leb, leb→le}
use Rattle.basis.proofs.Tables.{below, passes-below}
use Rattle.lines.specs.Lines.{bytes_of, names, name_of}

-- a number that is no kind, below and above them
pub no_name_below : (kind : ℕ) → kind < 1 → name_of kind ≡ []
unfolding name_of bytes_of
no_name_below kind h = let e : kind ≡ 0 = omega arith in rw e refl

pub no_name : (kind : ℕ) → 22 < kind → name_of kind ≡ []
unfolding name_of names bytes_of
no_name kind h = ap bytes_of (get_or-eq_default ("" ∷ names) "" {n = kind} (omega arith))

-- a kind's name is a row of the table
pub row_is : (kind : ℕ) → 1 ≤ kind → get_or (map bytes_of names) (kind - 1) [] ≡ name_of kind
unfolding name_of bytes_of
row_is kind h =
    let e : suc (kind - 1) ≡ kind = omega arith in
    get_or-map bytes_of names (kind - 1) "" ∙ ap (λ k. bytes_of (get_or ("" ∷ names) k "")) e

-- it has at most three letters
names-short : T (below (λ kind. leb (length (name_of kind)) 3) 23)
unfolding name_of names bytes_of
names-short = tt

pub name-few : (kind : ℕ) → length (name_of kind) ≤ 3
name-few kind = go (dec_le 23 kind)
  where
    go : Dec (23 ≤ kind) → length (name_of kind) ≤ 3
    go (yes h) = omega (arith, ap length (no_name kind (omega arith)))
    go (no h) = leb→le _ _ (passes-below (λ kind. leb (length (name_of kind)) 3) 23 names-short kind (lt_of_not-le h))
