-- From findings as numbers to their lines. Assumes nothing.
use Prim.Native.Nat.{ℕ, zero, suc, ◌+◌, ◌*◌}
use mathlib.Core.Path.{◌≡◌, refl, sym, ◌∙◌}
use mathlib.Core.List.{List, [], ◌∷◌, ◌++◌, append_assoc, append-nil}
use native.Mathlib.Omega.{arith}
use lib.ListN.{length}
use Rattle.basis.specs.Lists.{joined}
use Rattle.basis.proofs.Joined.{joined-more}
use Rattle.finding_list.specs.Calls.{numbers_of}
use Rattle.finding_list.specs.declared.Finding.{Finding}
use Rattle.listing.specs.Listing.{lines_of}
use Rattle.lines.specs.Writing.{Wrote}
use Rattle.listing.specs.PrivateContracts.{line_at}
use Rattle.lines.proofs.Writing.{◌then◌}

-- a joined list from its first part on
joined-first : {A : Type 0} (f g : ℕ → List A) → ((i : ℕ) → f (suc i) ≡ g i) → (n : ℕ) → joined f (suc n) ≡ f 0 ++ joined g n
unfolding joined
joined-first f g h zero = sym (append-nil (f 0))
joined-first f g h (suc n) = rw (joined-first f g h n, h n) (append_assoc (f 0) (joined g n) (g n))

-- the lines of the findings that the numbers begin with
line-later : (x : Finding) (numbers : List ℕ) (i : ℕ) → line_at (x.kind ∷ x.level ∷ x.place ∷ x.detail ∷ numbers) (suc i) ≡ line_at numbers i
unfolding line_at
line-later x numbers i =
    let e₀ : 4 * suc i ≡ suc (suc (suc (suc (4 * i)))) = omega arith in
    let e₁ : 4 * suc i + 1 ≡ suc (suc (suc (suc (4 * i + 1)))) = omega arith in
    let e₂ : 4 * suc i + 2 ≡ suc (suc (suc (suc (4 * i + 2)))) = omega arith in
    let e₃ : 4 * suc i + 3 ≡ suc (suc (suc (suc (4 * i + 3)))) = omega arith in
    rw (e₁, e₂, e₃, e₀)

pub lines_are : (rest : List ℕ) (xs : List Finding) → joined (line_at (numbers_of xs ++ rest)) (length xs) ≡ lines_of xs
unfolding numbers_of lines_of joined line_at
lines_are rest [] = refl
lines_are rest (x ∷ xs) =
    joined-first (line_at (x.kind ∷ x.level ∷ x.place ∷ x.detail ∷ (numbers_of xs ++ rest))) (line_at (numbers_of xs ++ rest))
    (line-later x (numbers_of xs ++ rest)) (length xs)
    ∙ rw (lines_are rest xs)

-- a turn of the loop that writes them
pub lines-turn : {a b c : List ℕ} {at j k : ℕ} (numbers : List ℕ) (i : ℕ) → Wrote a at (joined (line_at numbers) i) (67 * i) b j
    → Wrote b j (line_at numbers i) 67 c k → Wrote a at (joined (line_at numbers) (i + 1)) (67 * (i + 1)) c k
lines-turn numbers i first second =
    let e : 67 * (i + 1) ≡ 67 * i + 67 = omega arith in
    rw (joined-more (line_at numbers) i, e) (first then second)
