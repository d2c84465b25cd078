-- The parts of the page, and that they make it up. Assumes nothing.
use Prim.Native.Nat.{ℕ, zero, suc, ◌+◌, ◌*◌, ◌/◌, ◌%◌, ◌<◌}
use mathlib.Core.Path.{◌≡◌, refl, sym, ap, ◌∙◌}
use mathlib.Core.List.{List, ◌++◌, append_assoc, append-nil}
use native.Mathlib.Omega.{arith}
use borrow.Author.Tests.{lt-ltb}
use Rattle.basis.specs.Lists.{joined}
use Rattle.disk_page.specs.Page.{Entry, track_entries, side_entries, page_entries, entry_lines, page_of}
use Rattle.disk_page.specs.Parts.{part_of}
use Rattle.disk_page.proofs.Lines.{lines-append}

-- lists joined, and then more of them
joined-further : {A : Type 0} (f : ℕ → List A) (m n : ℕ) → joined f (m + n) ≡ joined f m ++ joined (λ k. f (m + k)) n
unfolding joined
joined-further f m zero = let e : m + 0 ≡ m = omega arith in rw (e, append-nil)
joined-further f m (suc n) =
    let e : m + suc n ≡ suc (m + n) = omega arith in
    rw (e, joined-further f m n, append_assoc)

-- the lines of entries, joined place by place
joined-lines : (f : ℕ → List ℕ) (g : ℕ → List Entry) (n : ℕ) → ((k : ℕ) → k < n → f k ≡ entry_lines (g k)) → joined f n ≡ entry_lines (joined g n)
unfolding joined entry_lines
joined-lines f g zero h = refl
joined-lines f g (suc n) h =
    ap (λ (l : List ℕ). l ++ f n) (joined-lines f g n (λ k b. h k (omega arith)))
    ∙ ap (λ (l : List ℕ). entry_lines (joined g n) ++ l) (h n (omega arith))
    ∙ sym (lines-append (joined g n) (g n))

module _ (tracks findings : List ℕ) where
  abbrev part : ℕ → List ℕ
  part = part_of tracks findings

  of-side : (H k at : ℕ) → at ≡ 84 * H + k → H < 2 → k < 84 → part at ≡ entry_lines (track_entries tracks findings H k)
  unfolding part_of
  of-side H k at e s h =
      let d : at / 84 ≡ H = omega arith in
      let m : at % 84 ≡ k = omega arith in
      rw (lt-ltb at 168 (omega arith), d, m)

  -- 16.25: the parts 0 to 168, one after the other, are the page
  pub parts-are-page : joined (part_of tracks findings) 169 ≡ page_of tracks findings
  unfolding page_of page_entries side_entries part_of joined
  parts-are-page =
      let first : joined part 84 ≡ entry_lines (side_entries tracks findings 0) = joined-lines part (track_entries tracks findings 0) 84 (λ k h. of-side 0 k k (omega arith) (omega arith) h) in
      let second : joined (λ k. part (84 + k)) 84 ≡ entry_lines (side_entries tracks findings 1) = joined-lines (λ k. part (84 + k)) (track_entries tracks findings 1) 84 (λ k h. of-side 1 k (84 + k) (omega arith) (omega arith) h) in
      let tracks_of : joined part 168 ≡ entry_lines (page_entries tracks findings) =
      joined-further part 84 84 ∙ rw (first, second) (sym (lines-append (side_entries tracks findings 0) (side_entries tracks findings 1))) in
      ap (λ (l : List ℕ). l ++ part 168) tracks_of
