-- The judgement of tracks and findings, a law for each branch, and what is known of those that are accepted. Assumes nothing.
use Prim.Native.Nat.{ℕ, ◌%◌, ◌≤◌}
use mathlib.Core.Path.{◌≡◌, refl}
use mathlib.Core.Bool.{Bool, true, false, cond, not, ◌&&◌, ◌||◌}
use mathlib.Core.List.{List}
use native.Mathlib.Omega.{arith}
use borrow.Author.Tests.{ltb-false, eqb-true}
use lib.Dec.{eqb, ltb}
use lib.ListN.{length}
use Rattle.basis.proofs.Bools.{and_left, and_right}
use Rattle.refusals.specs.RefusedCalls.{refused_with}
use Rattle.refusals.specs.RefusedCalls.Answer.{gives}
use Rattle.refusals.specs.declared.Refusal.TheVariants.{TrackOrSide, TrackGivenTwice, TooManyTracks, NotTheirFindings}
use Rattle.disk_tracks.specs.Given.{tracks_in, before, findings_in}
use Rattle.disk_tracks.specs.Judgement.{some_outside, some_twice, add_up, some_amiss, judged}

-- what it means that they add up
pub record AddedUp (tracks findings : List ℕ) : Type 0 where
  pub tracks_whole : length tracks % 3 ≡ 0
  pub findings_whole : length findings % 4 ≡ 0
  pub sum : before tracks (tracks_in tracks) ≡ findings_in findings

module _ (tracks findings : List ℕ) where
  pub added-up : add_up tracks findings ≡ true → AddedUp tracks findings
  unfolding add_up
  added-up e =
      let a = eqb (length tracks % 3) 0 in
      let b = eqb (length findings % 4) 0 in
      let c = eqb (before tracks (tracks_in tracks)) (findings_in findings) in
      let ab = and_left (a && b) c e in
      record {
        tracks_whole = eqb-true _ _ (and_left a b ab);
        findings_whole = eqb-true _ _ (and_right a b ab);
        sum = eqb-true _ _ (and_right (a && b) c e);
      }

-- what is known of tracks and findings that are accepted
pub record Accepted (tracks findings : List ℕ) : Type 0 where
  pub few : tracks_in tracks ≤ 168
  pub inside : some_outside tracks ≡ false
  pub once : some_twice tracks ≡ false
  pub adds : AddedUp tracks findings
  pub sound : some_amiss tracks findings ≡ false

pub accepted : {n : ℕ} (tracks findings : List ℕ) → judged tracks findings ≡ gives n → Accepted tracks findings
unfolding judged
accepted {n} tracks findings h =
    go (ltb 168 (tracks_in tracks)) (some_outside tracks) (some_twice tracks) (add_up tracks findings) (some_amiss tracks findings) refl refl refl refl refl h
  where
    go : (a b c d e : Bool) → ltb 168 (tracks_in tracks) ≡ a → some_outside tracks ≡ b → some_twice tracks ≡ c → add_up tracks findings ≡ d → some_amiss tracks findings ≡ e
        → cond a (refused_with TooManyTracks)
        (cond b (refused_with TrackOrSide) (cond c (refused_with TrackGivenTwice) (cond (not d || e) (refused_with NotTheirFindings) (gives (findings_in findings))))) ≡ gives n
        → Accepted tracks findings
    go true b c d e p q r s t z = let w : ◌≡◌ {A = ℕ} 0 1 = cc in absurd (omega arith)
    go false true c d e p q r s t z = let w : ◌≡◌ {A = ℕ} 0 1 = cc in absurd (omega arith)
    go false false true d e p q r s t z = let w : ◌≡◌ {A = ℕ} 0 1 = cc in absurd (omega arith)
    go false false false false e p q r s t z = let w : ◌≡◌ {A = ℕ} 0 1 = cc in absurd (omega arith)
    go false false false true true p q r s t z = let w : ◌≡◌ {A = ℕ} 0 1 = cc in absurd (omega arith)
    go false false false true false p q r s t z =
        record { few = ltb-false _ _ p; inside = q; once = r; adds = added-up tracks findings s; sound = t }
