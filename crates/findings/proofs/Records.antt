-- Numbers back into records, and the caller's list as the call leaves it. Assumes nothing.
use Prim.Native.Nat.{ℕ, zero, suc, ◌+◌, ◌*◌, ◌≤◌, ◌<◌}
use mathlib.Core.Path.{◌≡◌, refl, sym, ap, ◌∙◌}
use mathlib.Core.Bool.{Bool, true, false, cond}
use mathlib.Core.List.{List, [], ◌∷◌, ◌++◌}
use native.Mathlib.Nat.{mod-eq_of_lt}
use native.Mathlib.Numerals.{add-one}
use native.Mathlib.Omega.{arith}
use lib.Dec.{T as T', ltb, ltb→lt}
use lib.ListN.{length, get_or, set, take, drop, length-set, take-append-drop}
use Rattle.basis.specs.Lists.{listed, joined, written_over}
use Rattle.basis.proofs.Lists.{is-listed, listed_more}
use Rattle.basis.proofs.Tables.{below, passes-below}
use Rattle.finding_list.specs.Calls.{numbers_of}
use Rattle.finding_list.specs.Findings.{kinds, row_at, found_by, found_at, of_kind, findings_of}
use Rattle.findings.specs.PrivateContracts.{finding_at, Numbered}
use Rattle.finding_rules.specs.declared.Row.{Row}
use Rattle.finding_list.specs.declared.Finding.{Finding}
use Rattle.levels.specs.Levels.{levels}
use Rattle.cells.specs.CellsAndBytes.{cell}
use Rattle.layouts.specs.declared.Layout.{Layout}
use Rattle.sector_records.specs.Sectors.{sectors_of}

-- a record that is all zeros, where there is none
abbrev no_finding : Finding
no_finding = record { kind = 0; level = 0; place = 0; detail = 0 }

-- findings whose kind and level are bytes
abbrev pub Narrow : List Finding → Type 0
Narrow [] = Unit {0}
Narrow (x ∷ xs) = ((x.kind < 256) × (x.level < 256)) × Narrow xs

narrow-append : (xs ys : List Finding) → Narrow xs → Narrow ys → Narrow (xs ++ ys)
narrow-append [] ys h l = l
narrow-append (x ∷ xs) ys h l = (h.0, narrow-append xs ys h.1 l)

level-narrow : ℕ → Bool
level-narrow k = ltb (get_or levels k 0) 256

levels-narrow : T' (below level-narrow 21)
unfolding level-narrow levels
levels-narrow = tt

narrow-found : (k : ℕ) → k < kinds → (row : Row) → Narrow (found_by k row)
unfolding found_by level-narrow
narrow-found k h row = go row.holds
  where
    go : (b : Bool) → Narrow (cond b (record { kind = k + 1; level = get_or levels k 0; place = row.place; detail = row.detail } ∷ []) [])
    go true = ((omega arith, ltb→lt _ 256 (passes-below level-narrow 21 levels-narrow k h)), tt)
    go false = tt

narrow-joined : (f : ℕ → List Finding) (n : ℕ) → ((k : ℕ) → k < n → Narrow (f k)) → Narrow (joined f n)
unfolding joined
narrow-joined f zero h = tt
narrow-joined f (suc n) h = narrow-append (joined f n) (f n) (narrow-joined f n (λ k l. h k (omega arith))) (h n (omega arith))

-- four numbers on is one finding on
next-finding : (a b c d : ℕ) (rest : List ℕ) (i : ℕ) → finding_at (a ∷ b ∷ c ∷ d ∷ rest) (suc i) ≡ finding_at rest i
unfolding finding_at
next-finding a b c d rest i =
    let e₀ : 4 * suc i ≡ suc (suc (suc (suc (4 * i)))) = omega arith in
    let e₁ : 4 * suc i + 1 ≡ suc (suc (suc (suc (4 * i + 1)))) = omega arith in
    let e₂ : 4 * suc i + 2 ≡ suc (suc (suc (suc (4 * i + 2)))) = omega arith in
    let e₃ : 4 * suc i + 3 ≡ suc (suc (suc (suc (4 * i + 3)))) = omega arith in
    rw (e₁, e₂, e₃, e₀)

records-back : (xs : List Finding) (rest : List ℕ) → Narrow xs → (i : ℕ) → i < length xs → finding_at (numbers_of xs ++ rest) i ≡ get_or xs i no_finding
unfolding numbers_of finding_at
records-back [] rest h i l = absurd (omega arith)
records-back (x ∷ xs) rest h zero l = rw (mod-eq_of_lt h.0.0, mod-eq_of_lt h.0.1)
records-back (x ∷ xs) rest h (suc i) l =
    next-finding x.kind x.level x.place x.detail (numbers_of xs ++ rest) i ∙ records-back xs rest h.1 i (omega arith)

-- the first c findings of a list of numbers that starts with them
pub front_is : (xs : List Finding) (numbers : List ℕ) → Narrow xs → take (4 * length xs) numbers ≡ numbers_of xs → listed (finding_at numbers) (length xs) ≡ xs
front_is xs numbers h e = sym (is-listed (finding_at numbers) no_finding xs same)
  where
    same : (i : ℕ) → i < length xs → get_or xs i no_finding ≡ finding_at numbers i
    same i l =
        sym (records-back xs (drop (4 * length xs) numbers) h i l)
        ∙ ap (λ (ns : List ℕ). finding_at (ns ++ drop (4 * length xs) numbers) i) (sym e)
        ∙ ap (λ (ns : List ℕ). finding_at ns i) (take-append-drop (4 * length xs) numbers)

-- a list after i stores at its front
abbrev pub filled : (ℕ → Finding) → List Finding → ℕ → List Finding
filled f list zero = list
filled f list (suc i) = set (filled f list i) i (f i)

pub length-filled : (f : ℕ → Finding) (list : List Finding) (i : ℕ) → length (filled f list i) ≡ length list
length-filled f list zero = refl
length-filled f list (suc i) = length-set (filled f list i) i (f i) ∙ length-filled f list i

filled_is : (f : ℕ → Finding) (list : List Finding) (i : ℕ) → i ≤ length list → filled f list i ≡ listed f i ++ drop i list
unfolding listed
filled_is f list zero h = refl
filled_is f list (suc i) h = rw add-one at (listed_more f no_finding i (f i) list (filled f list i) (filled_is f list i (omega arith)) h refl)

module _ (layout : Layout) (bytes : List ℕ) (N T : ℕ) where
  findings-narrow : Narrow (findings_of layout bytes N T)
  unfolding findings_of of_kind found_at
  findings-narrow =
      narrow-joined _ kinds (λ k h. narrow-joined _ _ (λ i l. narrow-found k h (row_at layout (cell bytes N) N T (sectors_of layout bytes N) k i)))

  -- the caller's list after all stores
  pub list_is : (list : List Finding) (numbers : List ℕ) (count : ℕ) → Numbered numbers count (length list) (findings_of layout bytes N T)
      → filled (finding_at numbers) list count ≡ written_over (findings_of layout bytes N T) list
  list_is list numbers count n =
      let xs = findings_of layout bytes N T in
      rw n.all (filled_is (finding_at numbers) list (length xs) (omega (arith, n.all, n.fits)) ∙ rw (front_is xs numbers findings-narrow (rw n.all at n.front)))
