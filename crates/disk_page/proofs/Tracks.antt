-- What the loops over the tracks carry along. Assumes nothing.
use Prim.Native.Nat.{ℕ, zero, suc, ◌+◌, ◌-◌, ◌≤◌, ◌<◌}
use mathlib.Core.Path.{◌≡◌, refl, sym, ◌∙◌}
use mathlib.Core.Bool.{Bool, true, false, not, cond, beq, ◌&&◌}
use lib.ListN.{get_or}
use Rattle.disk_tracks.proofs.Chunks.{IsTrack}
use mathlib.Core.List.{List, []}
use native.Mathlib.Omega.{arith}
use lib.Dec.{eqb}
use Rattle.basis.specs.Lists.{joined}
use Rattle.disk_tracks.specs.Given.{some, tracks_in, own_at, before, findings_in, kind_at}
use Rattle.disk_tracks.specs.Judgement.{is_at}
use Rattle.disk_tracks.proofs.Sums.{own-within}
use Rattle.disk_page.specs.PrivateContracts.{Whole}
use Rattle.disk_page.specs.Ranges.{has_tnf, goes_on, is_empty, exactly_one, is_single_sided}
use Rattle.disk_page.specs.Page.{entry_of, finding_entries}

module _ (tracks findings : List ℕ) where
  -- the findings of the track at hand stand in the list
  pub within : {start own : ℕ} (i : ℕ) → Whole tracks findings → start ≡ before tracks i → own ≡ own_at tracks i → i < tracks_in tracks → start + own ≤ findings_in findings
  within i w s o h = omega (arith, own-within tracks i (tracks_in tracks) h, w.sum)

  -- whether the track at hand is the one
  pub is-here : {row : List ℕ} {r b : Bool} (H T i : ℕ) → IsTrack tracks row i → r ≡ (eqb (get_or row 1 0) H && eqb (get_or row 0 0) T) → r ≡ b → is_at tracks H T i ≡ b
  unfolding is_at
  is-here H T i t e f = rw (t.side, t.track) at (sym e ∙ f)

  -- TNF of the track at hand: of another one no finding is looked at
  pub tnf-here : {start own : ℕ} {r : Bool} (H T i : ℕ) → is_at tracks H T i ≡ true → start ≡ before tracks i → own ≡ own_at tracks i
      → some (λ k. eqb (kind_at findings (start + k)) 4) own ≡ r
      → (is_at tracks H T i && some (λ k. eqb (kind_at findings (before tracks i + k)) 4) (own_at tracks i)) ≡ r
  tnf-here H T i h s o e = rw (h, ← s, ← o) e

  pub tnf-elsewhere : (H T i : ℕ) → is_at tracks H T i ≡ false
      → (is_at tracks H T i && some (λ k. eqb (kind_at findings (before tracks i + k)) 4) (own_at tracks i)) ≡ false
  tnf-elsewhere H T i h = rw h refl

  -- the entries of the track at hand
  pub entries-here : {start own : ℕ} (H T i : ℕ) → is_at tracks H T i ≡ true → start ≡ before tracks i → own ≡ own_at tracks i
      → joined (λ k. entry_of tracks findings H T (start + k)) own ≡ cond (is_at tracks H T i) (finding_entries tracks findings H T i) []
  unfolding finding_entries
  entries-here H T i h s o = rw (h, ← s, ← o) refl

  pub no-entries : (H T i : ℕ) → is_at tracks H T i ≡ false → [] ≡ cond (is_at tracks H T i) (finding_entries tracks findings H T i) []
  no-entries H T i h = rw h refl

  pub goes-on-not : (H T : ℕ) → T < 1 → false ≡ goes_on tracks findings H T
  unfolding goes_on
  goes-on-not H zero h = refl
  goes-on-not H (suc T) h = absurd (omega arith)

  pub goes-on-is : (H T : ℕ) → 0 < T → has_tnf tracks findings H (T - 1) ≡ goes_on tracks findings H T
  unfolding goes_on
  goes-on-is H zero h = absurd (omega arith)
  goes-on-is H (suc T) h = let e : suc T - 1 ≡ T = omega arith in rw e

  -- just one of two sides
  pub one-side : {r s : Bool} → r ≡ is_empty tracks findings 0 → s ≡ is_empty tracks findings 1 → not (beq r s) ≡ is_single_sided tracks findings
  unfolding is_single_sided
  one-side {r} {s} e g = rw (← e, ← g) (go r s)
    where
      go : (a b : Bool) → not (beq a b) ≡ exactly_one a b
      go true true = refl
      go true false = refl
      go false true = refl
      go false false = refl
