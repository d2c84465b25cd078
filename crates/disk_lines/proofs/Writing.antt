-- Bytes written to a part of the buffer, from a place on to its end: they are written to the buffer. Assumes nothing.
use Prim.Native.Nat.{ℕ, zero, suc, ◌+◌, ◌-◌, ◌≤◌, min}
use mathlib.Core.Path.{◌≡◌, refl, sym, ap, ◌∙◌}
use mathlib.Core.List.{List, [], ◌∷◌, ◌++◌, append-nil}
use native.Mathlib.Nat.{le_refl, min-eq_left, min-eq_right, min-le_right, lt_of_not-le}
use native.Mathlib.Decide.{dec_le}
use native.Mathlib.Omega.{arith}
use borrow.Rule.Slice.PartMut.{mid_of, post_of, put_mid}
use lib.ListN.{length, take, drop, set, length-drop, drop_of_length-le}
use lib.Seq.{sets, set_out, take_all}
use Rattle.lines.specs.Lines.{out_after}
use Rattle.lines.specs.Writing.{Wrote}
use Rattle.lines.proofs.Writing.{out_is}

sets-later : (x : ℕ) (l : List ℕ) (i : ℕ) (vs : List ℕ) → sets (x ∷ l) (suc i) vs ≡ x ∷ sets l i vs
sets-later x l i [] = refl
sets-later x l i (v ∷ vs) = sets-later x (set l i v) (suc i) vs

sets-out : (l : List ℕ) (i : ℕ) (vs : List ℕ) → length l ≤ i → sets l i vs ≡ l
sets-out l i [] h = refl
sets-out l i (v ∷ vs) h = ap (λ (m : List ℕ). sets m (suc i) vs) (set_out l i v h) ∙ sets-out l (suc i) vs (omega arith)

-- a place behind the end is as good as the end
sets-clipped : (l : List ℕ) (i : ℕ) (vs : List ℕ) → sets l (min i (length l)) vs ≡ sets l i vs
sets-clipped l i vs = go (dec_le i (length l))
  where
    go : Dec (i ≤ length l) → sets l (min i (length l)) vs ≡ sets l i vs
    go (yes h) = rw (min-eq_left h)
    go (no h) =
        let g : length l ≤ i = omega (arith, lt_of_not-le h) in
        rw (min-eq_right g) (sets-out l (length l) vs (le_refl (length l)) ∙ sym (sets-out l i vs g))

front_is : (made l : List ℕ) → out_after made l ≡ sets l 0 made
front_is made l =
    let w : Wrote l 0 made (length made) (sets l 0 made) (length made) = record { bytes = refl; place = omega arith; few = le_refl (length made) } in
    sym (out_is w)

part-is : (made out : List ℕ) (from : ℕ) → from ≤ length out → take from out ++ out_after made (drop from out) ≡ sets out from made
part-is made out zero h = front_is made out
part-is made [] (suc from) h = absurd (omega arith)
part-is made (x ∷ out) (suc from) h = ap (λ (l : List ℕ). x ∷ l) (part-is made out from (omega arith)) ∙ sym (sets-later x out from made)

-- what a call on the part from place `at` on, or on the empty part behind the end, leaves of the buffer
pub part-wrote : {from next : ℕ} {part : List ℕ} (out made : List ℕ) (at most : ℕ) → from ≡ min at (length out)
    → part ≡ out_after made (mid_of from (length out - from) out) → length made ≤ most → next ≡ at + length made
    → Wrote out at made most (put_mid from (length out - from) out part) next
part-wrote {from} {next} {part} out made at most f p few n =
    let within : from ≤ length out = omega (arith, f, min-le_right at (length out)) in
    let l : length (drop from out) ≡ length out - from = length-drop from out in
    let mid : mid_of from (length out - from) out ≡ drop from out = take_all (length out - from) (drop from out) (omega arith) in
    let post : post_of from (length out - from) out ≡ [] = drop_of_length-le (drop from out) {i = length out - from} (omega arith) in
    let all : put_mid from (length out - from) out part ≡ sets out from made = rw (post, append-nil, p, mid) (part-is made out from within) in
    record { bytes = all ∙ ap (λ (k : ℕ). sets out k made) f ∙ sets-clipped out at made; place = n; few = few }
