-- The lines of entries, written one after the other. Assumes nothing.
use Prim.Native.Nat.{ℕ, ◌+◌, ◌≤◌}
use mathlib.Core.Path.{◌≡◌, refl}
use mathlib.Core.Bool.{true, false}
use mathlib.Core.List.{List, [], ◌∷◌, ◌++◌, append_assoc, append-nil}
use borrow.Author.Tests.{eq-eqb, ne_eqb}
use Rattle.basis.specs.Lists.{joined}
use Rattle.basis.proofs.Joined.{joined-more, joined-none}
use Rattle.lines.specs.Writing.{Wrote}
use Rattle.lines.proofs.Writing.{◌then◌, none, wrote-few}
use Rattle.disk_tracks.specs.Given.{kind_at}
use Rattle.disk_page.specs.Ranges.{goes_on, last_of}
use Rattle.disk_page.specs.Page.{Entry, entry, entry_of, line_of, entry_lines}

pub lines-append : (es fs : List Entry) → entry_lines (es ++ fs) ≡ entry_lines es ++ entry_lines fs
unfolding entry_lines
lines-append [] fs = refl
lines-append (e ∷ es) fs = rw (lines-append es fs, append_assoc)

-- none yet, and those of one place more
pub lines_none : (f : ℕ → List Entry) (l : List ℕ) (at most : ℕ) → Wrote l at (entry_lines (joined f 0)) most l at
unfolding entry_lines
lines_none f l at most = rw (joined-none f) (none l at most)

pub lines_more : {a b c : List ℕ} {at j k m n p : ℕ} (f : ℕ → List Entry) (i : ℕ) → Wrote a at (entry_lines (joined f i)) m b j → Wrote b j (entry_lines (f i)) n c k
    → m + n ≤ p → Wrote a at (entry_lines (joined f (i + 1))) p c k
lines_more f i first second h = rw (joined-more f i, lines-append (joined f i) (f i)) (wrote-few h (first then second))

pub no_lines : (l : List ℕ) (at most : ℕ) → Wrote l at (entry_lines []) most l at
unfolding entry_lines
no_lines l at most = none l at most

one_line : (e : Entry) → line_of e ≡ entry_lines (e ∷ [])
unfolding entry_lines
one_line e = rw append-nil

-- the entry of a finding, a law for each branch
module _ {a b : List ℕ} {at next : ℕ} (tracks findings : List ℕ) (H T j : ℕ) where
  pub wrote-other : (kind_at findings j ≡ 4 → ⊥) → Wrote a at (line_of (entry findings H T T j)) 80 b next → Wrote a at (entry_lines (entry_of tracks findings H T j)) 80 b next
  unfolding entry_of
  wrote-other h w = rw (ne_eqb _ _ h) (rw (one_line (entry findings H T T j)) at w)

  pub wrote-first : {last : ℕ} → kind_at findings j ≡ 4 → goes_on tracks findings H T ≡ false → last ≡ last_of tracks findings H T → Wrote a at (line_of (entry findings H T last j)) 80 b next
      → Wrote a at (entry_lines (entry_of tracks findings H T j)) 80 b next
  unfolding entry_of
  wrote-first {last} h g l w = rw (eq-eqb _ _ h, g, ← l) (rw (one_line (entry findings H T last j)) at w)

pub wrote-no-more : (l : List ℕ) (at : ℕ) (tracks findings : List ℕ) (H T j : ℕ) → kind_at findings j ≡ 4 → goes_on tracks findings H T ≡ true
    → Wrote l at (entry_lines (entry_of tracks findings H T j)) 80 l at
unfolding entry_of
wrote-no-more l at tracks findings H T j h g = rw (eq-eqb _ _ h, g) (no_lines l at 80)
