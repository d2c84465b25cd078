-- When the page says `single-sided`. Assumes nothing.
use Prim.Native.Nat.{ℕ}
use mathlib.Core.Path.{◌≡◌, refl, ◌∙◌}
use mathlib.Core.Bool.{Bool, true, false, not, cond}
use mathlib.Core.List.{List, [], ◌++◌, append-nil}
use mathlib.Core.Logic.{◌⊎◌, inl, inr}
use borrow.Author.Tests.{not-true, not-false}
use Rattle.lines.specs.Lines.{bytes_of}
use Rattle.disk_tracks.proofs.Some.{none-at}
use Rattle.disk_page.specs.Ranges.{has_tnf, is_empty, exactly_one, is_single_sided}
use Rattle.disk_page.specs.Page.{page_entries, entry_lines, page_of}
use Rattle.disk_laws.specs.LastLine.{Empty, SingleSided, LastLine}
use Rattle.disk_laws.proofs.Accepted.{clash}
use Rattle.disk_laws.proofs.Tnf.{some-found, tnf-given, given-tnf}

module _ (tracks findings : List ℕ) where
  empty-so : (H : ℕ) → is_empty tracks findings H ≡ true → Empty tracks findings H
  unfolding is_empty
  empty-so H e T h =
      tnf-given tracks findings H T (not-false _ (none-at (λ T. not (has_tnf tracks findings H T)) 80 T h (not-true _ e)))

  empty-not : (H : ℕ) → is_empty tracks findings H ≡ false → Empty tracks findings H → ⊥
  unfolding is_empty
  empty-not H e all =
      let f = some-found (λ T. not (has_tnf tracks findings H T)) 80 (not-false _ e) in
      clash (given-tnf tracks findings H f.place (all f.place f.below)) (not-true _ f.passes)

  single-so : is_single_sided tracks findings ≡ true → SingleSided tracks findings
  unfolding is_single_sided
  single-so e = go (is_empty tracks findings 0) (is_empty tracks findings 1) refl refl e
    where
      go : (a b : Bool) → is_empty tracks findings 0 ≡ a → is_empty tracks findings 1 ≡ b → exactly_one a b ≡ true → SingleSided tracks findings
      go true b p q h = inl (empty-so 0 p, empty-not 1 (q ∙ not-true b h))
      go false b p q h = inr (empty-not 0 p, empty-so 1 (q ∙ h))

  single-not : is_single_sided tracks findings ≡ false → SingleSided tracks findings → ⊥
  unfolding is_single_sided
  single-not e s = go (is_empty tracks findings 0) (is_empty tracks findings 1) refl refl e s
    where
      go : (a b : Bool) → is_empty tracks findings 0 ≡ a → is_empty tracks findings 1 ≡ b → exactly_one a b ≡ false → SingleSided tracks findings → ⊥
      go true b p q h (inl s) = s.1 (empty-so 1 (q ∙ not-false b h))
      go true b p q h (inr s) = s.0 (empty-so 0 p)
      go false b p q h (inl s) = empty-not 0 p s.0
      go false b p q h (inr s) = empty-not 1 (q ∙ h) s.1

  pub last_line : LastLine tracks findings
  unfolding page_of
  last_line = go (is_single_sided tracks findings) refl
    where
      go : (b : Bool) → is_single_sided tracks findings ≡ b
          → (SingleSided tracks findings × (entry_lines (page_entries tracks findings) ++ cond (is_single_sided tracks findings) (bytes_of "single-sided\n") [] ≡ entry_lines (page_entries tracks findings) ++ bytes_of "single-sided\n"))
          ⊎ ((SingleSided tracks findings → ⊥) × (entry_lines (page_entries tracks findings) ++ cond (is_single_sided tracks findings) (bytes_of "single-sided\n") [] ≡ entry_lines (page_entries tracks findings)))
      go true e = inl (single-so e, rw e)
      go false e = inr (single-not e, rw (e, append-nil))
