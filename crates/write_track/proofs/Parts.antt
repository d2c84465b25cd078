-- A track file is written from its three parts, each behind the one before. Assumes nothing.
use Prim.Native.Nat.{ℕ, ◌+◌, ◌-◌, ◌≤◌}
use mathlib.Core.Path.{◌≡◌, refl, sym, ◌∙◌, ap}
use mathlib.Core.List.{List, [], ◌∷◌, ◌++◌, append_assoc}
use native.Mathlib.Omega.{arith}
use borrow.Rule.Slice.PartMut.{put_mid}
use lib.ListN.{length, get_or, drop, length-append, length-drop}
use lib.Seq.{take_at, drop_at, drop-drop}
use Rattle.basis.specs.Lists.{written_over}
use Rattle.write_track.specs.FileOfList.{in_four_bytes, front_of, file_with, AtFront}

-- a part more, behind what is made
put-behind : (made bytes before : List ℕ) (at k : ℕ) → at ≡ length made → k ≡ length bytes
    → put_mid at k (written_over made before) bytes ≡ written_over (made ++ bytes) before
put-behind made bytes before at k e f =
    let rest = drop (length made) before in
    let behind : drop k (drop at (made ++ rest)) ≡ drop (length (made ++ bytes)) before =
    ap (drop k) (drop_at made rest at (sym e)) ∙ drop-drop k (length made) before
    ∙ ap (λ (n : ℕ). drop n before) (ap (λ (n : ℕ). length made + n) f ∙ sym (length-append made bytes)) in
    ap (λ (l : List ℕ). l ++ (bytes ++ drop k (drop at (made ++ rest)))) (take_at made rest at (sym e))
    ∙ ap (λ (l : List ℕ). made ++ (bytes ++ l)) behind ∙ sym (append_assoc made bytes (drop (length (made ++ bytes)) before))

-- the first part, with the bytes of the number of cells
front-filled : (T H cells : ℕ) {number front : List ℕ} → number ≡ in_four_bytes cells
    → front ≡ 2 ∷ 0 ∷ 0 ∷ 0 ∷ T ∷ H ∷ get_or number 0 0 ∷ get_or number 1 0 ∷ get_or number 2 0 ∷ get_or number 3 0 ∷ [] → front ≡ front_of T H cells
unfolding front_of
front-filled T H cells e f = f ∙ ap (λ (n : List ℕ). 2 ∷ 0 ∷ 0 ∷ 0 ∷ T ∷ H ∷ get_or n 0 0 ∷ get_or n 1 0 ∷ get_or n 2 0 ∷ get_or n 3 0 ∷ []) e

-- the three parts of a file
file-written : (T H cells : ℕ) (packed before : List ℕ) {number front second third : List ℕ} → number ≡ in_four_bytes cells
    → front ≡ 2 ∷ 0 ∷ 0 ∷ 0 ∷ T ∷ H ∷ get_or number 0 0 ∷ get_or number 1 0 ∷ get_or number 2 0 ∷ get_or number 3 0 ∷ [] → second ≡ packed → third ≡ in_four_bytes 0
    → put_mid (10 + length packed) (10 + length packed + 4 - (10 + length packed)) (put_mid 10 (10 + length packed - 10) (front ++ drop 10 before) second) third
    ≡ written_over (file_with T H cells packed) before
unfolding file_with front_of
file-written T H cells packed before n e f g =
    let front = front_of T H cells in
    let two = length-append front packed in
    rw (front-filled T H cells n e, f, g)
    (ap (λ (l : List ℕ). put_mid (10 + length packed) (10 + length packed + 4 - (10 + length packed)) l (in_four_bytes 0))
    (put-behind front packed before 10 (10 + length packed - 10) refl (omega arith))
    ∙ put-behind (front ++ packed) (in_four_bytes 0) before (10 + length packed) (10 + length packed + 4 - (10 + length packed)) (omega (arith, two)) (omega arith)
    ∙ ap (λ (l : List ℕ). written_over l before) (append_assoc front packed (in_four_bytes 0)))

-- and it stands at the front of a buffer with room for it
pub file-at_front : (T H cells : ℕ) (packed before : List ℕ) → 14 + length packed ≤ length before → {number front second third : List ℕ} → number ≡ in_four_bytes cells
    → front ≡ 2 ∷ 0 ∷ 0 ∷ 0 ∷ T ∷ H ∷ get_or number 0 0 ∷ get_or number 1 0 ∷ get_or number 2 0 ∷ get_or number 3 0 ∷ [] → second ≡ packed → third ≡ in_four_bytes 0
    → AtFront (file_with T H cells packed) (10 + length packed + 4)
    (put_mid (10 + length packed) (10 + length packed + 4 - (10 + length packed)) (put_mid 10 (10 + length packed - 10) (front ++ drop 10 before) second) third)
unfolding file_with front_of
file-at_front T H cells packed before room n e f g =
    let file = file_with T H cells packed in
    let made = file-written T H cells packed before n e f g in
    let long : length file ≡ 10 + length packed + 4 =
    omega (arith, length-append (front_of T H cells) (packed ++ in_four_bytes 0), length-append packed (in_four_bytes 0)) in
    rw made (record { within = omega (arith, long, length-append file (drop (length file) before), length-drop (length file) before); front_is = take_at file (drop (length file) before) (10 + length packed + 4) long })
