-- A track has TNF exactly where TNF is given for it. Assumes nothing.
use Prim.Native.Nat.{ℕ, zero, suc, ◌+◌, ◌<◌}
use mathlib.Core.Path.{◌≡◌, refl}
use mathlib.Core.Bool.{Bool, true, false, ◌&&◌, ◌||◌}
use mathlib.Core.List.{List}
use native.Mathlib.Omega.{arith}
use borrow.Author.Tests.{eqb-true, eq-eqb}
use lib.Dec.{eqb}
use Rattle.basis.proofs.Bools.{and_left, and_right}
use Rattle.disk_tracks.specs.Given.{some, tracks_in, own_at, before, kind_at}
use Rattle.disk_tracks.specs.Judgement.{is_at}
use Rattle.disk_tracks.proofs.Some.{some_hit}
use Rattle.disk_page.specs.Ranges.{has_tnf}
use Rattle.disk_laws.specs.LastLine.{GivenTnf}
use Rattle.disk_laws.proofs.Accepted.{clash, at_place, place-at}

-- a number below n that passes a test
pub record Found (test : ℕ → Bool) (n : ℕ) : Type 0 where
  pub place : ℕ
  pub below : place < n
  pub passes : test place ≡ true

pub some-found : (test : ℕ → Bool) (n : ℕ) → some test n ≡ true → Found test n
unfolding some
some-found test zero e = clash {b = false} e refl
some-found test (suc n) e = go (some test n) (test n) refl e (some-found test n)
  where
    go : (a b : Bool) → test n ≡ b → (a || b) ≡ true → (a ≡ true → Found test n) → Found test (suc n)
    go true b t h before = let f = before refl in record { place = f.place; below = omega (arith, f.below); passes = f.passes }
    go false b t h before = record { place = n; below = omega arith; passes = rw t h }

module _ (tracks findings : List ℕ) (H T : ℕ) where
  pub tnf-given : has_tnf tracks findings H T ≡ true → GivenTnf tracks findings H T
  unfolding has_tnf
  tnf-given e =
      let f = some-found (λ i. is_at tracks H T i && some (λ k. eqb (kind_at findings (before tracks i + k)) 4) (own_at tracks i)) (tracks_in tracks) e in
      let a = is_at tracks H T f.place in
      let b = some (λ k. eqb (kind_at findings (before tracks f.place + k)) 4) (own_at tracks f.place) in
      let g = some-found (λ k. eqb (kind_at findings (before tracks f.place + k)) 4) (own_at tracks f.place) (and_right a b f.passes) in
      let at = at_place tracks H T f.place (and_left a b f.passes) in
      record { i = f.place; k = g.place; within = f.below; own = g.below; side = at.0; track = at.1; kind = eqb-true _ _ g.passes }

  pub given-tnf : GivenTnf tracks findings H T → has_tnf tracks findings H T ≡ true
  unfolding has_tnf
  given-tnf g =
      let here = some_hit (λ k. eqb (kind_at findings (before tracks g.i + k)) 4) (own_at tracks g.i) g.k g.own (eq-eqb _ _ g.kind) in
      some_hit (λ i. is_at tracks H T i && some (λ k. eqb (kind_at findings (before tracks i + k)) 4) (own_at tracks i)) (tracks_in tracks) g.i g.within
      (rw (place-at tracks H T g.i g.side g.track, here))
