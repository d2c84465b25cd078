-- What stands before the line of a finding. Assumes nothing.
use Prim.Native.Nat.{ℕ, ◌/◌, ◌<◌, ◌≤◌}
use mathlib.Core.Path.{◌≡◌, refl}
use mathlib.Core.List.{List, [], ◌∷◌}
use native.Mathlib.Omega.{arith}
use borrow.Author.Tests.{lt-ltb, le-ltb}
use Rattle.lines.specs.Lines.{bytes_of, digit, two_digits, out_after}
use Rattle.lines.specs.Writing.{Wrote}
use Rattle.lines.proofs.Writing.{wrote-front}
use Rattle.disk_lines.specs.EntryLines.{start_of}

module _ {after : List ℕ} (before : List ℕ) (H T U : ℕ) {a b s : ℕ} (is-a : a ≡ digit (T / 10)) (is_b : b ≡ digit T) (is-s : s ≡ digit H) where
  -- a range
  pub wrote_range : {c d : ℕ} → T < U → c ≡ digit (U / 10) → d ≡ digit U → after ≡ out_after (84 ∷ a ∷ b ∷ 45 ∷ c ∷ d ∷ 32 ∷ 72 ∷ s ∷ 32 ∷ []) before
      → Wrote before 0 (start_of H T U) 10 after 10
  unfolding start_of bytes_of two_digits
  wrote_range {c} {d} h is_c is-d w =
      let made : start_of H T U ≡ 84 ∷ a ∷ b ∷ 45 ∷ c ∷ d ∷ 32 ∷ 72 ∷ s ∷ 32 ∷ [] = rw (lt-ltb T U h, is-a, is_b, is_c, is-d, is-s) in
      rw made (wrote-front 10 (omega arith) refl w)

  -- one track
  pub wrote_one : U ≤ T → after ≡ out_after (84 ∷ a ∷ b ∷ 32 ∷ 72 ∷ s ∷ 32 ∷ []) before → Wrote before 0 (start_of H T U) 10 after 7
  unfolding start_of bytes_of two_digits
  wrote_one h w =
      let made : start_of H T U ≡ 84 ∷ a ∷ b ∷ 32 ∷ 72 ∷ s ∷ 32 ∷ [] = rw (le-ltb T U h, is-a, is_b, is-s) in
      rw made (wrote-front 10 (omega arith) refl w)
