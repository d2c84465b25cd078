-- `block_choice::argument_of` meets its contract. Assumes nothing.
use mathlib.Core.Path.{sym, ◌∙◌}
use borrow.Author.Tests.{eqb-true, eqb-false}
use Rattle.block_choice.proofs.Words.{no_word, first-digit, no_digit, too_large, next-digit, last-digit}
use Rattle.block_choice.proofs.argument_of.Goals as goal

pub returns-then-is_empty : goal.returns-then-is_empty
returns-then-is_empty c = no_word _ (eqb-true _ _ (sym c.is_empty.ensures ∙ c.if-is_empty.true))

pub loop-byte-init : goal.loop-byte-init
loop-byte-init c = first-digit _ (eqb-false _ _ (sym c.is_empty.ensures ∙ c.if-is_empty.false))

pub returns-then-not-is_ascii_digit : goal.returns-then-not-is_ascii_digit
returns-then-not-is_ascii_digit c = no_digit c.loop-byte.invariant c.loop-byte-test.true (sym c.is_ascii_digit.ensures.value ∙ c.if-not-is_ascii_digit.true)

pub returns-then-number-gt255 : goal.returns-then-number-gt255
returns-then-number-gt255 c = too_large c.loop-byte.invariant c.loop-byte-test.true (sym c.is_ascii_digit.ensures.value ∙ c.if-not-is_ascii_digit.false) (rw c.from.ensures) c.if-number-gt255.true

pub loop-byte-preserved : goal.loop-byte-preserved
loop-byte-preserved c = next-digit c.loop-byte.invariant c.loop-byte-test.true (sym c.is_ascii_digit.ensures.value ∙ c.if-not-is_ascii_digit.false) (rw c.from.ensures) c.if-number-gt255.false

pub returns : goal.returns
returns c = last-digit c.loop-byte.invariant c.loop-byte-test.false
