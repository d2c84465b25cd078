-- A number at a place of an image, and what the judgement of its header gives. Assumes nothing.
use Rattle.std.proofs.Common.{◌≡◌, ℕ, ◌+◌, Bool, true, false, cond, ltb, List, get_or, drop, arith, get_or-drop}
use Rattle.basis.specs.Bytes.{four_bytes, number}
use Rattle.refusals.specs.RefusedCalls.{refused_with}
use Rattle.refusals.specs.RefusedCalls.Answer.{gives}
use Rattle.refusals.specs.declared.Refusal.TheVariants.{NotAnImage, ImageHeader}
use Rattle.scp_image.specs.Header.{not_an_image, fault_of, header_judged}

-- a number at a place of the image
pub number_here : (image : List ℕ) (at : ℕ)
    → four_bytes (get_or image at 0) (get_or image (at + 1) 0) (get_or image (at + 2) 0) (get_or image (at + 3) 0) ≡ number (drop at image)
number_here image at =
    let e : at + 0 ≡ at = omega arith in
    rw (get_or-drop at image 0 0, get_or-drop at image 1 0, get_or-drop at image 2 0, get_or-drop at image 3 0, e)

-- the head of an image that is judged is what was handed over
pub judged_gives : {A : Type 0} (image : List ℕ) (n : ℕ) {x y : A} → gives x ≡ header_judged image n (gives y) → x ≡ y
unfolding header_judged
judged_gives image n {x} {y} e = go (not_an_image image n) (ltb (fault_of image) 12) e
  where
    go : (a b : Bool) → gives x ≡ cond a (refused_with NotAnImage) (cond b (refused_with (ImageHeader (fault_of image))) (gives y)) → x ≡ y
    go true b e = absurd cc
    go false true e = absurd cc
    go false false e = cc
