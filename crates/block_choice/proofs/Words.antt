-- A word of digits, digit by digit. Assumes nothing.
use Prim.Native.Nat.{ℕ, ◌+◌, ◌≤◌, ◌<◌}
use mathlib.Core.Path.{◌≡◌, refl, sym, ◌∙◌}
use mathlib.Core.Bool.{true, false, cond}
use mathlib.Core.List.{List, [], ◌∷◌}
use native.Mathlib.Numerals.{add-one}
use native.Mathlib.Omega.{arith}
use borrow.Author.Tests.{lt-ltb, le-ltb}
use lib.Dec.{ltb}
use lib.ListN.{length, get_or, drop, drop_of_length-le}
use lib.Seq.{drop-cons}
use Rattle.block_choice.specs.Arguments.{is_digit, with_digit, argument_from, argument_of}
use Rattle.block_choice.specs.Arguments.Argument.{Byte, Other}

pub no_word : (word : List ℕ) → length word ≡ 0 → Other ≡ argument_of word
unfolding argument_of
no_word [] e = refl
no_word (byte ∷ word) e = absurd (omega arith)

-- after i digits that make this number
pub record AtDigit (word : List ℕ) (number i : ℕ) : Type 0 where
  pub within : i ≤ length word
  pub small : number ≤ 255
  pub rest : argument_from number (drop i word) ≡ argument_of word

pub first-digit : (word : List ℕ) → (length word ≡ 0 → ⊥) → AtDigit word 0 0
unfolding argument_of
first-digit [] some = absurd (some refl)
first-digit (byte ∷ word) some = record { within = omega arith; small = omega arith; rest = refl }

module _ {word : List ℕ} {number i : ℕ} (at : AtDigit word number i) where
  module _ (h : i < length word) where
    abbrev byte : ℕ
    byte = get_or word i 0

    here : argument_from number (drop i word)
        ≡ cond (is_digit byte) (cond (ltb (with_digit number byte) 256) (argument_from (with_digit number byte) (drop (i + 1) word)) Other) Other
    unfolding argument_from
    here = rw (add-one i, drop-cons word i 0 h)

    pub no_digit : is_digit byte ≡ false → Other ≡ argument_of word
    no_digit e = sym (sym at.rest ∙ here ∙ rw e)

    module _ (digit : is_digit byte ≡ true) {next : ℕ} (is : next ≡ with_digit number byte) where
      pub too_large : 255 < next → Other ≡ argument_of word
      too_large l = sym (sym at.rest ∙ here ∙ rw (digit, ← is, le-ltb next 256 (omega arith)))

      pub next-digit : next ≤ 255 → AtDigit word next (i + 1)
      next-digit l =
          record {
            within = omega (arith, h);
            small = l;
            rest = sym (here ∙ rw (digit, ← is, lt-ltb next 256 (omega arith))) ∙ at.rest;
          }

  pub last-digit : length word ≤ i → Byte number ≡ argument_of word
  unfolding argument_from
  last-digit l = rw (drop_of_length-le word l) at at.rest
