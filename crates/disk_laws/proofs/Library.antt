-- Findings of the library are never refused with 25: from the laws of finding_list. Assumes nothing.
use Prim.Native.Nat.{ℕ, zero, suc, ◌+◌, ◌-◌, ◌*◌, ◌%◌, ◌<◌, ◌≤◌}
use mathlib.Core.Path.{◌≡◌, refl}
use mathlib.Core.Bool.{Bool, true, false, cond}
use mathlib.Core.List.{List, [], ◌∷◌, ◌++◌}
use native.Mathlib.Nat.{zero-add}
use native.Mathlib.Omega.{arith}
use borrow.Author.Tests.{eq-eqb}
use lib.Dec.{ltb}
use lib.ListN.{length, get_or, length-append}
use Rattle.finding_list.specs.Calls.{numbers_of}
use Rattle.finding_list.specs.Findings.{findings_of}
use Rattle.finding_list.specs.declared.Finding.{Finding}
use Rattle.finding_list.proofs.Laws.{finding, strictly-ordered, kinds-in-range, tnf-only}
use Rattle.finding_list.proofs.Members.{member-at}
use Rattle.finding_list.proofs.Numbers.{length-numbers}
use Rattle.refusals.specs.RefusedCalls.{refused_with}
use Rattle.refusals.specs.RefusedCalls.Answer.{gives, refused}
use Rattle.refusals.specs.declared.Refusal.TheVariants.{TrackOrSide, TrackGivenTwice, TooManyTracks}
use Rattle.disk_tracks.specs.Given.{some, tracks_in, track_at, own_at, before, findings_in, kind_at, place_at}
use Rattle.disk_tracks.specs.Judgement.{some_outside, some_twice, add_up, amiss_at, some_amiss, judged}
use Rattle.disk_laws.specs.Library.{Read, tracks_of, findings_given, NeverAmiss}
use Rattle.disk_laws.proofs.Accepted.{Later, Tnf}
use Rattle.disk_laws.proofs.Numbers.{ReadAs, read-front, amiss-behind, not-amiss}

abbrev found_on : Read → List Finding
found_on r = findings_of r.layout r.bytes r.cells r.track

-- the tracks as numbers
tracks-length : (rs : List Read) → length (tracks_of rs) ≡ 3 * length rs
unfolding tracks_of
tracks-length [] = refl
tracks-length (r ∷ rs) = omega (arith, tracks-length rs)

tracks-many : (rs : List Read) → tracks_in (tracks_of rs) ≡ length rs
tracks-many rs = omega (arith, tracks-length rs)

track-next : (r : Read) (rs : List Read) (i : ℕ) → track_at (tracks_of (r ∷ rs)) (suc i) ≡ track_at (tracks_of rs) i
unfolding tracks_of
track-next r rs i = let e : 3 * suc i ≡ suc (suc (suc (3 * i))) = omega arith in rw e

own-next : (r : Read) (rs : List Read) (i : ℕ) → own_at (tracks_of (r ∷ rs)) (suc i) ≡ own_at (tracks_of rs) i
unfolding tracks_of
own-next r rs i = let e : 3 * suc i + 2 ≡ suc (suc (suc (3 * i + 2))) = omega arith in rw e

own_first : (r : Read) (rs : List Read) → own_at (tracks_of (r ∷ rs)) 0 ≡ length (found_on r)
unfolding tracks_of
own_first r rs = refl

before-next : (r : Read) (rs : List Read) (i : ℕ) → before (tracks_of (r ∷ rs)) (suc i) ≡ length (found_on r) + before (tracks_of rs) i
unfolding before
before-next r rs zero = omega (arith, own_first r rs)
before-next r rs (suc i) = omega (arith, before-next r rs i, own-next r rs i)

findings-length : (rs : List Read) → length (findings_given rs) ≡ 4 * before (tracks_of rs) (length rs)
unfolding findings_given before
findings-length [] = refl
findings-length (r ∷ rs) =
    omega (arith, length-append (numbers_of (found_on r)) (findings_given rs), length-numbers (found_on r), findings-length rs, before-next r rs (length rs))

adds-up : (rs : List Read) → add_up (tracks_of rs) (findings_given rs) ≡ true
unfolding add_up
adds-up rs =
    let t = tracks-length rs in
    let f = findings-length rs in
    let a : length (tracks_of rs) % 3 ≡ 0 = omega arith in
    let b : length (findings_given rs) % 4 ≡ 0 = omega arith in
    let c : before (tracks_of rs) (tracks_in (tracks_of rs)) ≡ findings_in (findings_given rs) = rw (tracks-many rs) (omega arith) in
    rw (eq-eqb _ _ a, eq-eqb _ _ b, eq-eqb _ _ c)

-- no finding of a track is amiss
own-sound : (r : Read) (rest : List ℕ) (k : ℕ) → k < length (found_on r) → amiss_at r.track (numbers_of (found_on r) ++ rest) 0 k ≡ false
own-sound r rest k h =
    not-amiss r.track (numbers_of (found_on r) ++ rest) 0 k
    (rw (zero-add k, here.kind) range.0) (rw (zero-add k, here.kind) range.1)
    (λ e. rw (zero-add k, here.level, here.place, here.detail) (tnf (rw (zero-add k, here.kind) at e)))
    (λ l. order k h l)
  where
    here : ReadAs (numbers_of (found_on r) ++ rest) k (get_or (found_on r) k (finding 0 0 0))
    here = read-front (finding 0 0 0) rest (found_on r) k h

    range : (1 ≤ (get_or (found_on r) k (finding 0 0 0)).kind) × ((get_or (found_on r) k (finding 0 0 0)).kind ≤ 21)
    range =
        let x = kinds-in-range r.layout r.bytes r.cells r.track (get_or (found_on r) k (finding 0 0 0)) (member-at (finding 0 0 0) (found_on r) k h) in
        (x.0, x.1)

    tnf : (get_or (found_on r) k (finding 0 0 0)).kind ≡ 4
        → Tnf r.track (get_or (found_on r) k (finding 0 0 0)).level (get_or (found_on r) k (finding 0 0 0)).place (get_or (found_on r) k (finding 0 0 0)).detail
    tnf e =
        let x = tnf-only r.layout r.bytes r.cells r.track (get_or (found_on r) k (finding 0 0 0)) (member-at (finding 0 0 0) (found_on r) k h) e in
        record { low = x.3; level_is = x.0; place_is = x.1; detail_is = x.2 }

    order : (k : ℕ) → k < length (found_on r) → 0 < k
        → Later (kind_at (numbers_of (found_on r) ++ rest) (0 + k - 1)) (place_at (numbers_of (found_on r) ++ rest) (0 + k - 1)) (kind_at (numbers_of (found_on r) ++ rest) (0 + k)) (place_at (numbers_of (found_on r) ++ rest) (0 + k))
    order k h l =
        let a = read-front (finding 0 0 0) rest (found_on r) (k - 1) (omega arith) in
        let b = read-front (finding 0 0 0) rest (found_on r) k h in
        rw (zero-add k, a.kind, a.place, b.kind, b.place)
        (strictly-ordered r.layout r.bytes r.cells r.track (k - 1) k (omega arith) h)

all_sound : (rs : List Read) (i k : ℕ) → i < length rs → k < own_at (tracks_of rs) i → amiss_at (track_at (tracks_of rs) i) (findings_given rs) (before (tracks_of rs) i) k ≡ false
unfolding tracks_of findings_given before
all_sound [] i k h l = absurd (omega arith)
all_sound (r ∷ rs) zero k h l = own-sound r (findings_given rs) k l
all_sound (r ∷ rs) (suc i) k h l =
    rw (track-next r rs i, before-next r rs i, amiss-behind (track_at (tracks_of rs) i) (found_on r) (findings_given rs) (before (tracks_of rs) i) k)
    (all_sound rs i k (omega arith) (rw (own-next r rs i) at l))

none_of : (test : ℕ → Bool) (n : ℕ) → ((i : ℕ) → i < n → test i ≡ false) → some test n ≡ false
unfolding some
none_of test zero h = refl
none_of test (suc n) h = rw (none_of test n (λ i l. h i (omega arith)), h n (omega arith))

none-amiss : (rs : List Read) → some_amiss (tracks_of rs) (findings_given rs) ≡ false
unfolding some_amiss
none-amiss rs =
    none_of _ (tracks_in (tracks_of rs))
    (λ i h. none_of (amiss_at (track_at (tracks_of rs) i) (findings_given rs) (before (tracks_of rs) i)) (own_at (tracks_of rs) i) (λ k l. all_sound rs i k (omega (arith, tracks-many rs)) l))

pub never-amiss : (rs : List Read) → NeverAmiss rs
unfolding judged
never-amiss rs value e =
    go (ltb 168 (tracks_in (tracks_of rs))) (some_outside (tracks_of rs)) (some_twice (tracks_of rs)) (rw (adds-up rs, none-amiss rs) at e)
  where
    go : (a b c : Bool)
        → cond a (refused_with TooManyTracks) (cond b (refused_with TrackOrSide) (cond c (refused_with TrackGivenTwice) (gives (findings_in (findings_given rs))))) ≡ refused 25 value → ⊥
    go true b c h = let z : ◌≡◌ {A = ℕ} 22 25 = cc in omega arith
    go false true c h = let z : ◌≡◌ {A = ℕ} 1 25 = cc in omega arith
    go false false true h = let z : ◌≡◌ {A = ℕ} 21 25 = cc in omega arith
    go false false false h = let z : ◌≡◌ {A = ℕ} 0 1 = cc in omega arith
