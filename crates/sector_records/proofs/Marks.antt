-- Marks: the word that is looked for, and a search for a mark with a certain byte, which goes from mark to mark. Assumes nothing.
use Prim.Native.Nat.{ℕ, ◌+◌, ◌-◌, ◌*◌, ◌<◌, ◌≤◌}
use mathlib.Core.Path.{◌≡◌, refl, sym, ap, ◌∙◌}
use mathlib.Core.Bool.{Bool, true, false, ◌&&◌, ◌||◌}
use mathlib.Core.List.{List}
use native.Mathlib.Decide.{dec_le}
use native.Mathlib.Nat.{lt_of_not-le}
use native.Mathlib.Omega.{arith}
use borrow.Author.Tests.{eq-eqb, ne_eqb, eqb-false, lt-leb}
use lib.Dec.{eqb, leb}
use Rattle.basis.specs.Search.{least}
use Rattle.basis.proofs.Bools.{and_left, and-false}
use Rattle.basis.proofs.Search.{least-found, least-high, least_skip, least-same}
use Rattle.cells.specs.CellsAndBytes.{cell, word, word_at, stands, least_place}
use Rattle.cells.proofs.Words.{word_lt, word_split}
use Rattle.cell_words.specs.Tests.{one_at, like_at, kept_from, thrice_at, stands_at}
use Rattle.mfm.specs.Coding.{data_cell, byte_on}
use Rattle.sector_records.specs.PrivateContracts.{likely_at}
use Rattle.layouts.specs.Layouts.{single_density, double_density, layout_of}
use Rattle.layouts.specs.declared.Density.{Density}
use Rattle.layouts.specs.declared.Density.TheVariants.{Single, Double}
use Rattle.layouts.specs.declared.Layout.{Layout}
use Rattle.sector_records.specs.Marks.{mark_at, mark_byte, mark_of, word_mark_at, id_mark_at, data_mark_at}

likely-mark : (f : ℕ → ℕ) (p : ℕ) → likely_at f p ≡ true → mark_at f p ≡ true
unfolding likely_at
likely-mark f p e = and_left (mark_at f p) (eqb (f (p + 51)) 1) e

-- of a byte from C0 on, the second data cell is a one
two_cells : (g : ℕ → ℕ) → word g 2 0 ≡ 2 * g 0 + g 1
unfolding word
two_cells g = let e : word g 2 0 ≡ 2 * (2 * 0 + g 0) + g 1 = refl in omega arith

second-cell : (f : ℕ → ℕ) → ((i : ℕ) → f i < 2) → (p : ℕ) → 0xC0 ≤ mark_byte f p → f (p + 51) ≡ 1
unfolding byte_on
second-cell f bit p h =
    let g = data_cell f (p + 48) in
    let b : (i : ℕ) → g i < 2 = λ i. bit (p + 48 + (2 * i + 1)) in
    let s = word_split g b 2 6 0 in
    let l = word_lt g b 6 (0 + 2) in
    let t = two_cells g in
    let x = b 0 in
    let y = b 1 in
    let e : p + 48 + (2 * 1 + 1) ≡ p + 51 = omega arith in
    let one : g 1 ≡ 1 = omega arith in
    sym (ap f e) ∙ one

module _ (f : ℕ → ℕ) (low high : ℕ) where
  low-mark : (p : ℕ) → mark_byte f p < low → mark_of f low high p ≡ false
  unfolding mark_of
  low-mark p h = rw (lt-leb low (mark_byte f p) h, and-false (mark_at f p))

  pub no-mark : (p : ℕ) → mark_at f p ≡ false → mark_of f low high p ≡ false
  unfolding mark_of
  no-mark p e = rw e

  pub mark-of : (p : ℕ) (b : Bool) → mark_at f p ≡ true → b ≡ (leb low (mark_byte f p) && leb (mark_byte f p) high) → mark_of f low high p ≡ b
  unfolding mark_of
  mark-of p b e g = rw e (sym g)

  -- a search that has passed no mark of this kind, and stands at a mark, or at its end
  pub record Sought (from to p : ℕ) : Type 0 where
    pub inside : p ≤ to
    pub on : p < to → mark_at f p ≡ true
    pub same : least (mark_of f low high) (to - p) p ≡ least (mark_of f low high) (to - from) from

module _ (f : ℕ → ℕ) (bit : (i : ℕ) → f i < 2) (low high : ℕ) where
  -- a mark that is looked for has a one as the second data cell of its byte
  unlikely : 0xC0 ≤ low → (p : ℕ) → likely_at f p ≡ false → mark_of f low high p ≡ false
  unfolding likely_at
  unlikely h p e = go (mark_at f p) refl e
    where
      low_byte : eqb (f (p + 51)) 1 ≡ false → mark_of f low high p ≡ false
      low_byte g = other (dec_le 0xC0 (mark_byte f p))
        where
          other : Dec (0xC0 ≤ mark_byte f p) → mark_of f low high p ≡ false
          other (yes l) = absurd (eqb-false (f (p + 51)) 1 g (second-cell f bit p l))
          other (no l) = low-mark f low high p (omega (arith, lt_of_not-le l))

      go : (m : Bool) → mark_at f p ≡ m → (m && eqb (f (p + 51)) 1) ≡ false → mark_of f low high p ≡ false
      go true a g = low_byte g
      go false a g = no-mark f low high p a

  -- from the next mark on
  pub sought-next : (from to p r : ℕ) → 0xC0 ≤ low → p ≤ to → r ≡ least (likely_at f) (to - p) p → least (mark_of f low high) (to - p) p ≡ least (mark_of f low high) (to - from) from → Sought f low high from to r
  sought-next from to p r c h e s =
      let t : p + (to - p) ≡ to = omega arith in
      record {
        inside = omega (arith, least-high (likely_at f) (to - p) p);
        on = λ l. rw e (likely-mark f _ (least-found (likely_at f) (to - p) p (omega arith)));
        same = rw e (least_skip (likely_at f) (mark_of f low high) (unlikely c) (to - p) p to t ∙ s);
      }

-- a search for a mark of single density is one for its word
pub word-found : (bytes : List ℕ) (n w from to r : ℕ) → r ≡ least_place bytes n 16 w from to → r ≡ least (word_mark_at (cell bytes n) w) (to - from) from
unfolding stands word_at word_mark_at
word-found bytes n w from to r e = e ∙ least-same (stands bytes n 16 w) (word_mark_at (cell bytes n) w) (λ p. refl) (to - from) from

-- the marks of either density are looked for as its rule says
module _ (layout : Layout) (f : ℕ → ℕ) (k from : ℕ) where
  pub id-single : layout.density ≡ 1 → least (word_mark_at f 0xF57E) k from ≡ least (id_mark_at layout f) k from
  unfolding id_mark_at
  id-single e = least-same (word_mark_at f 0xF57E) (id_mark_at layout f) (λ p. rw (eq-eqb layout.density 1 e)) k from

  pub id-double : (layout.density ≡ 1 → ⊥) → least (mark_of f 0xFC 0xFF) k from ≡ least (id_mark_at layout f) k from
  unfolding id_mark_at
  id-double e = least-same (mark_of f 0xFC 0xFF) (id_mark_at layout f) (λ p. rw (ne_eqb layout.density 1 e)) k from

  pub data-single : layout.density ≡ 1 → least (λ p. word_mark_at f 0xF56F p || word_mark_at f 0xF56A p) k from ≡ least (data_mark_at layout f) k from
  unfolding data_mark_at
  data-single e = least-same (λ p. word_mark_at f 0xF56F p || word_mark_at f 0xF56A p) (data_mark_at layout f) (λ p. rw (eq-eqb layout.density 1 e)) k from

  pub data-double : (layout.density ≡ 1 → ⊥) → least (mark_of f 0xF8 0xFB) k from ≡ least (data_mark_at layout f) k from
  unfolding data_mark_at
  data-double e = least-same (mark_of f 0xF8 0xFB) (data_mark_at layout f) (λ p. rw (ne_eqb layout.density 1 e)) k from

-- where three syncs follow each other, a mark stands
pub marks-are : (f : ℕ → ℕ) (p : ℕ) → thrice_at (word_mark_at f 0x4489) p ≡ mark_at f p
unfolding thrice_at word_mark_at mark_at
marks-are f p = refl

pub likely-are : (f : ℕ → ℕ) (p : ℕ) → kept_from 51 true (one_at f) (mark_at f) p ≡ likely_at f p
unfolding kept_from like_at one_at likely_at
likely-are f p = refl

pub stands-mark : (f : ℕ → ℕ) (w p : ℕ) → stands_at f w p ≡ word_mark_at f w p
unfolding stands_at word_mark_at
stands-mark f w p = refl

-- the sync of each density, by the number that a layout has for it
pub single-sync : (d : Density) → (layout_of d).density ≡ 1 → (layout_of d).sync ≡ 0xF57E
unfolding single_density double_density
single-sync Single e = refl
single-sync Double e = absurd (omega arith)

pub double-sync : (d : Density) → ((layout_of d).density ≡ 1 → ⊥) → (layout_of d).sync ≡ 0x4489
unfolding single_density double_density
double-sync Single e = absurd (e refl)
double-sync Double e = refl

pub sync-small : (d : Density) → (layout_of d).sync < 0x1_0000
unfolding single_density double_density
sync-small Single = omega arith
sync-small Double = omega arith

-- the number that a layout has for its density
pub single-density : (layout : Layout) (d : Density) → layout ≡ layout_of d → d ≡ Single → layout.density ≡ 1
unfolding single_density
single-density layout d e g = rw (e, g) refl

pub double-density : (layout : Layout) (d : Density) → layout ≡ layout_of d → d ≡ Double → layout.density ≡ 1 → ⊥
unfolding double_density
double-density layout d e g h = let z : layout.density ≡ 2 = rw (e, g) refl in absurd (omega arith)
