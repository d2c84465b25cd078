-- Sectors as the struct keeps them: the first 64, with zeros after the last. Assumes nothing.
use Prim.Native.Nat.{ℕ, zero, suc, ◌+◌, ◌<◌, ◌≤◌}
use mathlib.Core.Path.{◌≡◌, refl, sym, ap, ap₂, ◌∙◌}
use mathlib.Core.List.{List, [], ◌∷◌, ◌++◌, append_assoc}
use native.Mathlib.Decide.{ℕ_discrete}
use native.Mathlib.Omega.{arith}
use lib.ListN.{length, get_or, set, take, replicate, length-append, length-replicate, length-set}
use lib.Seq.{length-take-le, take-append-le, get_or-take, get_or-set_same, get_or-set_other, get_or_at, ext_get_or}
use Rattle.sector_records.specs.Sectors.{no_sector, kept}
use Rattle.sector_records.specs.declared.Sector.{Sector}
use Rattle.sector_records.specs.declared.Sectors.{Sectors}

-- the first m elements, with d after the last
module _ {A : Type 0} (d : A) where
  nothing-at : (m i : ℕ) → get_or (replicate m d) i d ≡ d
  nothing-at zero i = refl
  nothing-at (suc m) zero = refl
  nothing-at (suc m) (suc i) = nothing-at m i

  filled_at : (xs : List A) (m i : ℕ) → get_or (xs ++ replicate m d) i d ≡ get_or xs i d
  filled_at [] m i = nothing-at m i
  filled_at (x ∷ xs) m zero = refl
  filled_at (x ∷ xs) m (suc i) = filled_at xs m i

  snoc-at : (xs : List A) (x : A) (i : ℕ) → (i ≡ length xs → ⊥) → get_or (xs ++ (x ∷ [])) i d ≡ get_or xs i d
  snoc-at [] x zero h = absurd (h refl)
  snoc-at [] x (suc i) h = refl
  snoc-at (y ∷ xs) x zero h = refl
  snoc-at (y ∷ xs) x (suc i) h = snoc-at xs x i (λ e. h (ap suc e))

  module _ (m : ℕ) where
    front : List A → List A
    front xs = take m (xs ++ replicate m d)

    front_at : (xs : List A) (i : ℕ) → i < m → get_or (front xs) i d ≡ get_or xs i d
    unfolding front
    front_at xs i h = get_or-take m (xs ++ replicate m d) i d h ∙ filled_at xs m i

    length_front : (xs : List A) → length (front xs) ≡ m
    unfolding front
    length_front xs = length-take-le m (xs ++ replicate m d) (omega (arith, length-append xs (replicate m d), length-replicate m d))

    front-more : (xs : List A) (x : A) → length xs < m → set (front xs) (length xs) x ≡ front (xs ++ (x ∷ []))
    front-more xs x h =
        let l = length_front xs in
        let n : length (set (front xs) (length xs) x) ≡ length (front (xs ++ (x ∷ []))) = length-set (front xs) (length xs) x ∙ l ∙ sym (length_front (xs ++ (x ∷ []))) in
        ext_get_or d (set (front xs) (length xs) x) (front (xs ++ (x ∷ []))) n (λ i b. each i (omega (arith, length_front (xs ++ (x ∷ [])))))
      where
        each : (i : ℕ) → i < m → get_or (set (front xs) (length xs) x) i d ≡ get_or (front (xs ++ (x ∷ []))) i d
        each i b = go (ℕ_discrete i (length xs)) ∙ sym (front_at (xs ++ (x ∷ [])) i b)
          where
            go : Dec (i ≡ length xs) → get_or (set (front xs) (length xs) x) i d ≡ get_or (xs ++ (x ∷ [])) i d
            go (yes e) = rw e (get_or-set_same (front xs) (length xs) x d (omega (arith, length_front xs)) ∙ sym (get_or_at xs x [] d (length xs) refl))
            go (no e) = get_or-set_other (front xs) (length xs) i x d e ∙ front_at xs i b ∙ sym (snoc-at xs x i e)

    front-full : (xs : List A) (x : A) → m ≤ length xs → front xs ≡ front (xs ++ (x ∷ []))
    unfolding front
    front-full xs x h =
        rw append_assoc (take-append-le m xs (replicate m d) h ∙ sym (take-append-le m xs ((x ∷ []) ++ replicate m d) h))

pub kept-count : (xs : List Sector) → (kept xs).count ≡ length xs
unfolding kept
kept-count xs = refl

pub kept_at : (xs : List Sector) (i : ℕ) → i < 64 → get_or (kept xs).all i no_sector ≡ get_or xs i no_sector
unfolding kept front
kept_at xs i h = front_at no_sector 64 xs i h

-- one sector more
module _ (xs : List Sector) (x : Sector) (s : Sectors) (e : s ≡ kept xs) where
  longer : length xs + 1 ≡ length (xs ++ (x ∷ []))
  longer = omega (arith, length-append xs (x ∷ []))

  pub kept_more : s.count < 64 → record { all = set s.all s.count x; count = s.count + 1 } ≡ kept (xs ++ (x ∷ []))
  unfolding kept front
  kept_more h =
      let l : length xs < 64 = rw e at h in
      rw e (ap₂ (λ (a : List Sector) (n : ℕ). record { all = a; count = n }) (front-more no_sector 64 xs x l) longer)

  pub kept_full : 64 ≤ s.count → record { all = s.all; count = s.count + 1 } ≡ kept (xs ++ (x ∷ []))
  unfolding kept front
  kept_full h =
      let l : 64 ≤ length xs = rw e at h in
      rw e (ap₂ (λ (a : List Sector) (n : ℕ). record { all = a; count = n }) (front-full no_sector 64 xs x l) longer)
